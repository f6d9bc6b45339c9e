-- Spans that join: along a maximal run of joining steps the pieces are one span, and a step that does not join stands singly.
-- Both `cut_route`, where a step is a word or a lone character, and `cut_all_unmatched`, where each step is a character, are cases of `Steps`.
-- Assumes nothing.
use Prim.Native.Nat.{ℕ, zero, suc, ◌+◌, ◌-◌, ◌≤◌, ◌<◌}
use mathlib.Core.Bool.{Bool, true, false, cond}
use mathlib.Core.List.{List, [], ◌∷◌}
use mathlib.Core.Path.{◌≡◌, refl, ap, ◌∙◌, subst}
use native.Mathlib.Nat.{le_refl}
use native.Mathlib.Omega.{arith}
use Rattle.cuts.specs.Tokens.{Span, span, Piece, before_pieces, pieces_of, places_of, joined}
use Rattle.tokens.specs.Runs.{MaximalRun}
use Rattle.score.proofs.Tests.{by_leb}

-- ---- pieces

abbrev piece : Span → Bool → Piece
piece s joining = record { place = s; joining = joining }

-- whether the first piece joins with one before it
abbrev first_joins : List Piece → Bool
first_joins [] = false
first_joins (p ∷ ps) = p.joining

before_joins : (s : Span) (joining : Bool) (ps : List Piece) → first_joins (before_pieces s joining ps) ≡ joining
before_joins s joining [] = refl
before_joins s false (p ∷ ps) = refl
before_joins s true (p ∷ ps) = by_first p.joining
  where
    by_first : (t : Bool) → first_joins (cond t (piece (span s.start p.place.end) true ∷ ps) (piece s true ∷ p ∷ ps)) ≡ true
    by_first true = refl
    by_first false = refl

-- a span before pieces of which the first does not join is a piece of its own
before_other : (s : Span) (joining : Bool) (ps : List Piece) → first_joins ps ≡ false → before_pieces s joining ps ≡ piece s joining ∷ ps
before_other s joining [] e = refl
before_other s false (p ∷ ps) e = refl
before_other s true (p ∷ ps) e = rw e

-- a span that does not join is a piece of its own
before_lone : (s : Span) (ps : List Piece) → before_pieces s false ps ≡ piece s false ∷ ps
before_lone s [] = refl
before_lone s (p ∷ ps) = refl

-- ---- steps

-- the steps of a block of n characters from each position on, each of them to `end`; a step joins where `holds`, and then goes on by one
pub record Steps (n : ℕ) (joining : Span → Bool) (steps : ℕ → List Span) (end : ℕ → ℕ) (holds : ℕ → Bool) : Type 0 where
  pub none : (x : ℕ) → n ≤ x → steps x ≡ []
  pub next : (x : ℕ) → x < n → steps x ≡ span x (end x) ∷ steps (end x)
  pub joins : (x : ℕ) → x < n → joining (span x (end x)) ≡ holds x
  pub by_one : (x : ℕ) → x < n → holds x ≡ true → end x ≡ x + 1

module _ {n : ℕ} {joining : Span → Bool} {steps : ℕ → List Span} {end : ℕ → ℕ} {holds : ℕ → Bool} (block : Steps n joining steps end holds) where
  pieces : ℕ → List Piece
  pieces x = pieces_of joining (steps x)

  pieces_next : (x : ℕ) → x < n → pieces x ≡ before_pieces (span x (end x)) (holds x) (pieces (end x))
  unfolding pieces pieces_of
  pieces_next x h = ap (pieces_of joining) (block.next x h)
      ∙ ap (λ (t : Bool). before_pieces (span x (end x)) t (pieces_of joining (steps (end x)))) (block.joins x h)

  first_joins_lem : (x : ℕ) → x < n → first_joins (pieces x) ≡ holds x
  first_joins_lem x h = ap first_joins (pieces_next x h) ∙ before_joins (span x (end x)) (holds x) (pieces (end x))

  -- after a maximal run the first piece does not join
  ended : (to : ℕ) → to ≤ n → (to < n → holds to ≡ false) → first_joins (pieces to) ≡ false
  unfolding pieces pieces_of
  ended to inside no_more =
      by_leb n to (λ (t : Bool). first_joins (pieces_of joining (steps to)) ≡ false)
      (λ h. ap (λ (ss : List Span). first_joins (pieces_of joining ss)) (block.none to h))
      (λ h. first_joins_lem to h ∙ no_more h)

  -- a step that joins
  pieces_joining : (x : ℕ) → x < n → holds x ≡ true → pieces x ≡ before_pieces (span x (x + 1)) true (pieces (x + 1))
  pieces_joining x h e = pieces_next x h ∙ rw (e, block.by_one x h e)

  -- the steps of a run that ends at `to`, `more` of them after the one at x
  along : (more x to : ℕ) → x + 1 + more ≡ to → to ≤ n → ((i : ℕ) → x ≤ i → i < to → holds i ≡ true) → first_joins (pieces to) ≡ false
      → pieces x ≡ piece (span x to) true ∷ pieces to
  along zero x to e inside all end_of_run =
      let one : x + 1 ≡ to = omega arith in
      pieces_joining x (omega arith) (all x (le_refl x) (omega arith))
      ∙ rw one (before_other (span x to) true (pieces to) end_of_run)
  along (suc more) x to e inside all end_of_run =
      let further : x + 1 + 1 + more ≡ to = omega arith in
      pieces_joining x (omega arith) (all x (le_refl x) (omega arith))
      ∙ rw (along more (x + 1) to further inside (λ i h l. all i (omega arith) l) end_of_run)

  pub no_spans : (x : ℕ) → n ≤ x → joined joining (steps x) ≡ []
  unfolding joined pieces_of
  no_spans x h = ap (joined joining) (block.none x h)

  -- a step that does not join is a span
  pub single : (x : ℕ) → x < n → holds x ≡ false → joined joining (steps x) ≡ span x (end x) ∷ joined joining (steps (end x))
  unfolding joined pieces
  single x h e =
      let alone : pieces x ≡ piece (span x (end x)) false ∷ pieces (end x) = pieces_next x h ∙ rw e (before_lone (span x (end x)) (pieces (end x))) in
      ap places_of alone

  -- a step that joins, with the maximal run after it, is a span
  pub run : (x to : ℕ) → x < n → holds x ≡ true → MaximalRun holds n (x + 1) to → joined joining (steps x) ≡ span x to ∷ joined joining (steps to)
  unfolding joined pieces
  run x to h e maximal =
      let forward : x + 1 ≤ to = maximal.forward in
      let counted : x + 1 + (to - (x + 1)) ≡ to = omega arith in
      ap places_of
      (along (to - (x + 1)) x to counted maximal.inside
      (λ i first last. by_leb (x + 1) i (λ (t : Bool). holds i ≡ true)
      (λ g. maximal.all i g last)
      (λ g. let same : x ≡ i = omega arith in subst (λ (k : ℕ). holds k ≡ true) same e))
      (ended to maximal.inside maximal.no_more))
