-- A block's route in the code's slices, and what its tokens bring by the mode, in the terms of `cuts/specs/Tokens.antt`.
-- Assumes nothing.
use Rattle.std.specs.Prelude.{ℕ, ◌+◌, ◌≤◌, ◌<◌, ◌&&◌, List, [], ◌∷◌, ◌≡◌, eqb, get_or}
use Rattle.classes.specs.Blocks.{ascii_letter_or_digit}
use Rattle.book.specs.Prefixes.{Edge}
use Rattle.route.specs.Route.{Best}
use Rattle.route.specs.Slices.{nowhere}
use Rattle.cuts.specs.declared.TokenizeMode.{TokenizeMode}
use Rattle.cuts.specs.declared.TokenizeMode.TheVariants.{Default, Search}
use Rattle.cuts.specs.Tokens.{Span, searched}
use Rattle.tokens.specs.Runs.{MaximalRun}
use Rattle.search.specs.Brought.{brought_by}

-- ---- the route in slices

-- each step of a block of n characters leads forward, to the block's end at most
pub record Forward (n : ℕ) (ends : List ℕ) : Type 0 where
  pub onward : (i : ℕ) → i < n → i < get_or ends i 0
  pub inside : (i : ℕ) → i < n → get_or ends i 0 ≤ n

-- the slice has the ends of the route's steps
abbrev pub HasEnds : ℕ → List Best → List ℕ → Type 0
HasEnds n route ends = (i : ℕ) → i < n → get_or ends i 0 ≡ (get_or route i nowhere).end

-- "Route steps of one ASCII letter or digit"
abbrev pub letter_run : List ℕ → List ℕ → ℕ → ℕ → ℕ → Type 0
letter_run chars ends n from to = MaximalRun (λ i. eqb (get_or ends i 0) (i + 1) && ascii_letter_or_digit (get_or chars i 0)) n from to

-- ---- by the mode

-- what a token brings: itself, or in search what it finds before itself
unfoldable pub token_by : TokenizeMode → List ℕ → List (List Edge) → Span → List Span
token_by Default chars rows s = s ∷ []
token_by Search chars rows s = brought_by chars rows s

-- the same of a block's tokens
unfoldable pub tokens_by : TokenizeMode → List ℕ → List (List Edge) → List Span → List Span
tokens_by Default chars rows spans = spans
tokens_by Search chars rows spans = searched chars rows spans
