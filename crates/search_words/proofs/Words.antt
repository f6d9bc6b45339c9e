-- The held words in a token: the loop of `word_at`, which looks through the edges of a position, and the stretches of a size from a position on.
-- Ends rise, so behind an edge that ends no earlier than a word would there is none that ends where it would.
-- Assumes nothing.
use Prim.Native.Nat.{ℕ, zero, suc, ◌+◌, ◌-◌, ◌≤◌, ◌<◌}
use mathlib.Core.Bool.{Bool, false, ◌||◌}
use mathlib.Core.List.{List, [], ◌∷◌, ◌++◌}
use mathlib.Core.Path.{◌≡◌, refl, sym, ap, ◌∙◌}
use native.Mathlib.Nat.{le_refl}
use native.Mathlib.Omega.{arith}
use borrow.Author.Tests.{eq-eqb, ne_eqb, lt-ltb, le-ltb}
use lib.Dec.{eqb}
use lib.Ieee.{Float}
use lib.ListN.{get_or}
use Rattle.score.proofs.Tests.{by_leb}
use Rattle.book.specs.Prefixes.{Edge}
use Rattle.route.specs.Slices.{edges_from, edges_at, rows_from, rows_of}
use Rattle.cuts.specs.Tokens.{Span, span, any_of, those, held_between, stretches, words_of_size}
use Rattle.search_words.specs.Rising.{EndsRiseAt}
use Rattle.cuts.proofs.Lists.{those_first}

-- ---- the edges of a position are the row of that position

row_from : (starts ends records : List ℕ) (logarithms : List Float) (i count k : ℕ) → k < count
    → get_or (rows_from starts ends records logarithms i count) k [] ≡ edges_at starts ends records logarithms (i + k)
unfolding rows_from
row_from starts ends records logarithms i zero k h = absurd (omega arith)
row_from starts ends records logarithms i (suc count) zero h = let here : i + 0 ≡ i = omega arith in rw here
row_from starts ends records logarithms i (suc count) (suc k) h =
    let same : i + 1 + k ≡ i + suc k = omega arith in
    row_from starts ends records logarithms (i + 1) count k (omega arith) ∙ ap (edges_at starts ends records logarithms) same

pub row_at : (starts ends records : List ℕ) (logarithms : List Float) (n at : ℕ) → at < n
    → get_or (rows_of starts ends records logarithms n) at [] ≡ edges_at starts ends records logarithms at
row_at starts ends records logarithms n at h =
    let same : 0 + at ≡ at = omega arith in
    row_from starts ends records logarithms 0 n at h ∙ ap (edges_at starts ends records logarithms) same

-- ---- the loop of `word_at`

abbrev ends_at : ℕ → Edge → Bool
ends_at end e = eqb e.end end

module _ (starts ends : List ℕ) (at end : ℕ) where
  -- where the position's edges end in the slices
  abbrev last : ℕ
  last = get_or starts (at + 1) 0

  -- one of the edges from a place on ends there
  unfoldable pub held_from : List ℕ → List Float → ℕ → Bool
  held_from records logarithms place = any_of (ends_at end) (edges_from ends records logarithms place (last - place))

  -- what is kept at each turn: the edges passed end earlier
  pub record Looking (place : ℕ) : Type 0 where
    pub first : get_or starts at 0 ≤ place
    pub same : (records : List ℕ) (logarithms : List Float) → held_from records logarithms place ≡ held_from records logarithms (get_or starts at 0)

  -- what is ensured, where the answer is r
  abbrev pub Held : Bool → Type 0
  Held r = (n : ℕ) (records : List ℕ) (logarithms : List Float) → at < n → r ≡ held_between (rows_of starts ends records logarithms n) (span at end)

  pub looking_begins : Looking (get_or starts at 0)
  looking_begins = record { first = le_refl _; same = λ records logarithms. refl }

  none_left : (records : List ℕ) (logarithms : List Float) (place : ℕ) → last ≤ place → held_from records logarithms place ≡ false
  unfolding held_from edges_from
  none_left records logarithms place h = let none : last - place ≡ 0 = omega arith in rw none

  next_edge : (records : List ℕ) (logarithms : List Float) (place : ℕ) → place < last
      → held_from records logarithms place ≡ eqb (get_or ends place 0) end || held_from records logarithms (place + 1)
  unfolding held_from edges_from
  next_edge records logarithms place h = let more : last - place ≡ suc (last - (place + 1)) = omega arith in rw more

  -- an edge that ends earlier is passed
  passed : (records : List ℕ) (logarithms : List Float) (place : ℕ) → place < last → (get_or ends place 0 ≡ end → ⊥)
      → held_from records logarithms place ≡ held_from records logarithms (place + 1)
  passed records logarithms place h other = next_edge records logarithms place h ∙ rw (ne_eqb (get_or ends place 0) end other)

  -- behind an edge that ends later all do
  beyond : EndsRiseAt starts ends at → (records : List ℕ) (logarithms : List Float) (k place : ℕ) → last ≤ place + k → get_or starts at 0 ≤ place
      → (place < last → end < get_or ends place 0)
      → held_from records logarithms place ≡ false
  beyond rise records logarithms zero place e first later = none_left records logarithms place (omega arith)
  beyond rise records logarithms (suc k) place e first later =
      by_leb last place (λ (t : Bool). held_from records logarithms place ≡ false)
      (λ h. none_left records logarithms place h)
      (λ h.
      let now : end < get_or ends place 0 = later h in
      passed records logarithms place h (omega arith)
      ∙ beyond rise records logarithms k (place + 1) (omega arith) (omega arith)
      (λ more. let further : get_or ends place 0 < get_or ends (place + 1) 0 = rise.further place first more in omega arith))

  by_row : (r : Bool) → ((records : List ℕ) (logarithms : List Float) → held_from records logarithms (get_or starts at 0) ≡ r) → Held r
  unfolding held_from
  by_row r e n records logarithms h = sym (e records logarithms) ∙ ap (any_of (ends_at end)) (sym (row_at starts ends records logarithms n at h))

  module _ {place : ℕ} (here : Looking place) where
    pub looks_on : place < last → get_or ends place 0 < end → Looking (place + 1)
    looks_on h earlier =
        record {
          first = omega (arith, here.first);
          same = λ records logarithms. sym (passed records logarithms place h (omega arith)) ∙ here.same records logarithms;
        }

    -- no edge is left
    pub finds_none : last ≤ place → Held false
    finds_none h = by_row false (λ records logarithms. sym (here.same records logarithms) ∙ none_left records logarithms place h)

    -- an edge that ends no earlier settles it
    pub finds : EndsRiseAt starts ends at → place < last → end ≤ get_or ends place 0 → Held (eqb (get_or ends place 0) end)
    finds rise h reached = by_row (eqb (get_or ends place 0) end) (λ records logarithms. sym (here.same records logarithms) ∙ settled records logarithms)
      where
        settled : (records : List ℕ) (logarithms : List Float) → held_from records logarithms place ≡ eqb (get_or ends place 0) end
        settled records logarithms =
            by_leb (get_or ends place 0) end (λ (t : Bool). held_from records logarithms place ≡ eqb (get_or ends place 0) end)
            (λ g. let there : get_or ends place 0 ≡ end = omega arith in next_edge records logarithms place h ∙ rw (eq-eqb (get_or ends place 0) end there))
            (λ g.
            beyond rise records logarithms (last - place) place (omega arith) here.first (λ l. g)
            ∙ sym (ne_eqb (get_or ends place 0) end (omega arith)))

-- ---- the stretches of a size, from the one that ends at a position on

module _ (size : ℕ) (rows : List (List Edge)) (y : ℕ) where
  unfoldable pub words_left : ℕ → List Span
  words_left end = those (held_between rows) (stretches size (end - size) (y + 1 - end))

  pub word_then : (end : ℕ) → size ≤ end → end ≤ y → words_left end ≡ those (held_between rows) (span (end - size) end ∷ []) ++ words_left (end + 1)
  unfolding words_left
  word_then end h inside =
      let more : y + 1 - end ≡ suc (y + 1 - (end + 1)) = omega arith in
      let there : end - size + size ≡ end = omega arith in
      let onward : end - size + 1 ≡ end + 1 - size = omega arith in
      rw (more, there, onward) (those_first (held_between rows) (span (end - size) end) (stretches size (end + 1 - size) (y + 1 - (end + 1))))

  pub no_words : (end : ℕ) → y < end → words_left end ≡ []
  unfolding words_left
  no_words end h = let none : y + 1 - end ≡ 0 = omega arith in rw none

  -- a token of more characters
  pub all_words : (x : ℕ) → size < y - x → words_of_size size rows (span x y) ≡ words_left (x + size)
  unfolding words_of_size words_left
  all_words x more =
      let many : y - x + 1 - size ≡ y + 1 - (x + size) = omega arith in
      let first : x + size - size ≡ x = omega arith in
      rw (lt-ltb size (y - x) more, many, first)

  -- one that has no more
  pub too_few : (x : ℕ) → y - x ≤ size → words_of_size size rows (span x y) ≡ []
  unfolding words_of_size
  too_few x few = rw (le-ltb size (y - x) few)
