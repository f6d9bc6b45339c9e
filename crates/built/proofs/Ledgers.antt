-- The ledger by itself: a word that enters has its new frequency, every other word keeps its own, the sum gains the new frequency and loses the old
-- one, and each word stays in it once.
-- Assumes nothing.
use mathlib.Core.Path.{◌≡◌, refl, sym, ◌∙◌, subst}
use mathlib.Core.Bool.{Bool, true, false, cond}
use mathlib.Core.Logic.{◌≢◌}
use mathlib.Core.List.{List, [], ◌∷◌}
use mathlib.Core.Option.{Option, none, some}
use Prim.Native.Nat.{ℕ, ◌+◌, ◌≤◌}
use native.Mathlib.Omega.{arith}
use borrow.Author.Tests.{eq-eqb, eqb-true}
use Rattle.built.specs.Ledger.{Entry, entry_of, same_word, frequency_in, enter_in, sum_of, EachOnce}
use Rattle.built.proofs.Keys.{both}

-- ---- equal words

same_true : (v w : List ℕ) → same_word v w ≡ true → v ≡ w
unfolding same_word
same_true [] [] e = refl
same_true [] (d ∷ ds) e = let z : ◌≡◌ {A = ℕ} 0 1 = cc in absurd (omega arith)
same_true (c ∷ cs) [] e = let z : ◌≡◌ {A = ℕ} 0 1 = cc in absurd (omega arith)
same_true (c ∷ cs) (d ∷ ds) e = let parts = both _ _ e in rw (eqb-true c d parts.0, same_true cs ds parts.1)

same_refl : (w : List ℕ) → same_word w w ≡ true
unfolding same_word
same_refl [] = refl
same_refl (c ∷ cs) = rw (eq-eqb c c refl) (same_refl cs)

same_eq : (v w : List ℕ) → v ≡ w → same_word v w ≡ true
same_eq v w e = rw e (same_refl w)

same_ne : (v w : List ℕ) → v ≢ w → same_word v w ≡ false
same_ne v w n = go (same_word v w) refl
  where
    go : (t : Bool) → same_word v w ≡ t → t ≡ false
    go true e = absurd (n (same_true v w e))
    go false e = refl

-- ---- one entry and the rest

module _ (e : Entry) (es : List Entry) (word : List ℕ) where
  first_is : e.word ≡ word → frequency_in (e ∷ es) word ≡ some e.frequency
  unfolding frequency_in
  first_is q = rw (same_eq e.word word q)

  first_is_not : e.word ≢ word → frequency_in (e ∷ es) word ≡ frequency_in es word
  unfolding frequency_in
  first_is_not n = rw (same_ne e.word word n)

  enter_first : (f : ℕ) → e.word ≡ word → enter_in (e ∷ es) word f ≡ entry_of word f ∷ es
  unfolding enter_in
  enter_first f q = rw (same_eq e.word word q)

  enter_later : (f : ℕ) → e.word ≢ word → enter_in (e ∷ es) word f ≡ e ∷ enter_in es word f
  unfolding enter_in
  enter_later f n = rw (same_ne e.word word n)

-- two things are the same or not
pub data Compared {A : Type 0} (x y : A) : Type 0 where
  same : x ≡ y → Compared x y
  other : x ≢ y → Compared x y

pub compare_words : (v w : List ℕ) → Compared v w
compare_words v w = go (same_word v w) refl
  where
    go : (t : Bool) → same_word v w ≡ t → Compared v w
    go true e = same (same_true v w e)
    go false e = other (λ q. let t : same_word v w ≡ true = same_eq v w q in let z : ◌≡◌ {A = ℕ} 0 1 = cc in omega arith)

-- ---- after a word has entered

pub entered_has : (ledger : List Entry) (word : List ℕ) (f : ℕ) → frequency_in (enter_in ledger word f) word ≡ some f
unfolding enter_in
entered_has [] word f = first_is (entry_of word f) [] word refl
entered_has (e ∷ es) word f = go (compare_words e.word word) (entered_has es word f)
  where
    go : Compared e.word word → frequency_in (enter_in es word f) word ≡ some f → frequency_in (enter_in (e ∷ es) word f) word ≡ some f
    go (same q) rest = rw (enter_first e es word f q) (first_is (entry_of word f) es word refl)
    go (other n) rest = rw (enter_later e es word f n) (first_is_not e (enter_in es word f) word n ∙ rest)

pub others_kept : (ledger : List Entry) (word : List ℕ) (f : ℕ) (v : List ℕ) → word ≢ v → frequency_in (enter_in ledger word f) v ≡ frequency_in ledger v
unfolding enter_in frequency_in
others_kept [] word f v n = first_is_not (entry_of word f) [] v n
others_kept (e ∷ es) word f v n = go (compare_words e.word word) (others_kept es word f v n)
  where
    below : frequency_in (enter_in es word f) v ≡ frequency_in es v → Compared e.word v → frequency_in (e ∷ enter_in es word f) v ≡ frequency_in (e ∷ es) v
    below rest (same q) = first_is e (enter_in es word f) v q ∙ sym (first_is e es v q)
    below rest (other m) = first_is_not e (enter_in es word f) v m ∙ rest ∙ sym (first_is_not e es v m)

    go : Compared e.word word → frequency_in (enter_in es word f) v ≡ frequency_in es v → frequency_in (enter_in (e ∷ es) word f) v ≡ frequency_in (e ∷ es) v
    go (same q) rest =
        let differ : e.word ≢ v = λ p. n (sym q ∙ p) in
        rw (enter_first e es word f q) (first_is_not (entry_of word f) es v n ∙ sym (first_is_not e es v differ))
    go (other m) rest = rw (enter_later e es word f m) (below rest (compare_words e.word v))

-- the frequency that a word had, 0 if it was not there
abbrev pub or_zero : Option ℕ → ℕ
or_zero none = 0
or_zero (some f) = f

pub sum_entered : (ledger : List Entry) (word : List ℕ) (f : ℕ) → sum_of (enter_in ledger word f) + or_zero (frequency_in ledger word) ≡ sum_of ledger + f
unfolding enter_in sum_of frequency_in
sum_entered [] word f = omega arith
sum_entered (e ∷ es) word f = go (compare_words e.word word) (sum_entered es word f)
  where
    go : Compared e.word word → sum_of (enter_in es word f) + or_zero (frequency_in es word) ≡ sum_of es + f
        → sum_of (enter_in (e ∷ es) word f) + or_zero (frequency_in (e ∷ es) word) ≡ sum_of (e ∷ es) + f
    go (same q) rest = rw (enter_first e es word f q, first_is e es word q) (omega arith)
    go (other n) rest = rw (enter_later e es word f n, first_is_not e es word n) (omega arith)

-- no frequency is above the sum
pub frequency_most : (ledger : List Entry) (word : List ℕ) → or_zero (frequency_in ledger word) ≤ sum_of ledger
unfolding sum_of frequency_in
frequency_most [] word = omega arith
frequency_most (e ∷ es) word = go (same_word e.word word) (frequency_most es word)
  where
    go : (t : Bool) → or_zero (frequency_in es word) ≤ sum_of es → or_zero (cond t (some e.frequency) (frequency_in es word)) ≤ e.frequency + sum_of es
    go true rest = omega arith
    go false rest = omega arith

pub once_kept : (ledger : List Entry) (word : List ℕ) (f : ℕ) → EachOnce ledger → EachOnce (enter_in ledger word f)
unfolding enter_in frequency_in
once_kept [] word f once = (refl, tt)
once_kept (e ∷ es) word f once = go (compare_words e.word word) (once_kept es word f once.1)
  where
    go : Compared e.word word → EachOnce (enter_in es word f) → EachOnce (enter_in (e ∷ es) word f)
    go (same q) rest = rw (enter_first e es word f q) (subst (λ (v : List ℕ). frequency_in es v ≡ none) q once.0, once.1)
    go (other n) rest = rw (enter_later e es word f n) (others_kept es word f e.word (λ p. n (sym p)) ∙ once.0, rest)
