-- By the mode: what a block's tokens bring is what each of them brings, one after the other.
-- Assumes nothing.
use mathlib.Core.Path.{◌≡◌, refl, ap, ◌∙◌}
use mathlib.Core.List.{List, [], ◌∷◌, ◌++◌}
use Prim.Native.Nat.{ℕ}
use Rattle.book.specs.Prefixes.{Edge}
use Rattle.cuts.specs.declared.TokenizeMode.{TokenizeMode}
use Rattle.cuts.specs.declared.TokenizeMode.TheVariants.{Default, Search}
use Rattle.cuts.specs.Tokens.{Span, span}
use Rattle.tokens.proofs.Turns.{Turn, Turning}
use Rattle.search.specs.Brought.{brought_by}
use Rattle.search.proofs.Brought.{no_tokens_lem, token_then}
use Rattle.cut_route.specs.Routes.{token_by, tokens_by}

module _ (cs : List ℕ) (rows : List (List Edge)) where
  pub none_by : (mode : TokenizeMode) → tokens_by mode cs rows [] ≡ []
  unfolding tokens_by
  none_by Default = refl
  none_by Search = no_tokens_lem cs rows

  first_by : (mode : TokenizeMode) (s : Span) (ss : List Span) → tokens_by mode cs rows (s ∷ ss) ≡ token_by mode cs rows s ++ tokens_by mode cs rows ss
  unfolding tokens_by token_by
  first_by Default s ss = refl
  first_by Search s ss = token_then cs rows s ss

  -- one token, by the mode as a `match` tells it
  pub token_default : {mode : TokenizeMode} (s : Span) → mode ≡ Default → token_by mode cs rows s ≡ s ∷ []
  unfolding token_by
  token_default s e = rw e refl

  pub token_search : {mode : TokenizeMode} (s : Span) → mode ≡ Search → token_by mode cs rows s ≡ brought_by cs rows s
  unfolding token_by
  token_search s e = rw e refl

  -- a turn along the route is one of what its tokens bring
  pub turn_by : (mode : TokenizeMode) (n : ℕ) (rest : ℕ → List Span) (x y : ℕ) → Turn n rest x y
      → Turning n (λ z. tokens_by mode cs rows (rest z)) x y (token_by mode cs rows (span x y))
  turn_by mode n rest x y turn = record {
    forward = turn.forward;
    inside = turn.inside;
    first = ap (tokens_by mode cs rows) turn.first ∙ first_by mode (span x y) (rest y);
  }
