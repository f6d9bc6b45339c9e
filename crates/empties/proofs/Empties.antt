-- Counting empty slots down. What is still wanted after the slots from a place on is what the loop has left to find. The slots before a place and those
-- from it on have together as many empty ones as all slots, whichever part is looked at first. Assumes nothing.
use mathlib.Core.Path.{◌≡◌, refl, sym, ap, ◌∙◌}
use mathlib.Core.Bool.{Bool, true, false, not, cond}
use mathlib.Core.List.{List, [], ◌∷◌, ◌++◌}
use Prim.Native.Nat.{ℕ, zero, suc, ◌+◌, ◌-◌, ◌*◌, ◌/◌, ◌%◌, ◌<◌, ◌≤◌}
use native.Mathlib.Numerals.{add-one}
use native.Mathlib.Omega.{arith}
use borrow.Author.Tests.{lt-ltb, le-ltb, le-leb, lt-leb, leb-true, leb-false, eq-eqb, ne_eqb, not-true, not-false}
use lib.Dec.{leb, ltb, eqb}
use lib.ListN.{length, get_or, take, drop, length-drop, drop_of_length-le, take-append-drop}
use lib.Seq.{drop-cons, take-length, length-take-le}
use Rattle.trie.specs.Trie.{keys_of}
use Rattle.trie.proofs.Packed.{keys_whole, keys_after, keys_before}
use Rattle.book.specs.Enter.{empty_slots}

-- ---- the loop

-- how many are still wanted after the slots from a place on
unfoldable pub wanted_from : List ℕ → ℕ → ℕ → ℕ
wanted_from keys i left = left - empty_slots (drop i keys)

pub starts : (keys : List ℕ) (count : ℕ) → wanted_from keys 0 count ≡ count - empty_slots keys
unfolding wanted_from
starts keys count = refl

module _ (keys : List ℕ) (i left r : ℕ) (same : wanted_from keys i left ≡ r) where
  pub none_wanted : left ≡ 0 → 0 ≡ r
  unfolding wanted_from
  none_wanted e = let none : 0 ≡ left - empty_slots (drop i keys) = omega arith in none ∙ same

  module _ (h : i < length keys) where
    here : empty_slots (drop i keys) ≡ cond (eqb (get_or keys i 0) 0) (suc (empty_slots (drop (i + 1) keys))) (empty_slots (drop (i + 1) keys))
    unfolding empty_slots
    here = ap empty_slots (drop-cons keys i 0 h) ∙ rw (add-one i)

    pub one_found : (key : ℕ) → key ≡ get_or keys i 0 → key ≡ 0 → wanted_from keys (i + 1) (left - 1) ≡ r
    unfolding wanted_from
    one_found key read zero_key =
        let e : get_or keys i 0 ≡ 0 = sym read ∙ zero_key in
        let n : empty_slots (drop i keys) ≡ suc (empty_slots (drop (i + 1) keys)) = here ∙ rw (eq-eqb (get_or keys i 0) 0 e) in
        let less : left - 1 - empty_slots (drop (i + 1) keys) ≡ left - empty_slots (drop i keys) = omega arith in
        less ∙ same

    pub none_found : (key : ℕ) → key ≡ get_or keys i 0 → (key ≡ 0 → ⊥) → wanted_from keys (i + 1) left ≡ r
    unfolding wanted_from
    none_found key read other =
        let e : get_or keys i 0 ≡ 0 → ⊥ = λ (z : get_or keys i 0 ≡ 0). other (read ∙ z) in
        let n : empty_slots (drop i keys) ≡ empty_slots (drop (i + 1) keys) = here ∙ rw (ne_eqb (get_or keys i 0) 0 e) in
        ap (λ (empty : ℕ). left - empty) (sym n) ∙ same

  pub all_seen : length keys ≤ i → left ≡ r
  unfolding wanted_from empty_slots
  all_seen h =
      let none : empty_slots (drop i keys) ≡ 0 = ap empty_slots (drop_of_length-le keys h) in
      let kept : left ≡ left - empty_slots (drop i keys) = omega arith in
      kept ∙ same

-- ---- the two parts

joined : (xs ys : List ℕ) → empty_slots (xs ++ ys) ≡ empty_slots xs + empty_slots ys
unfolding empty_slots
joined [] ys = omega arith
joined (x ∷ xs) ys = by_first (eqb x 0) (joined xs ys)
  where
    by_first : (empty : Bool) → empty_slots (xs ++ ys) ≡ empty_slots xs + empty_slots ys
        → cond empty (suc (empty_slots (xs ++ ys))) (empty_slots (xs ++ ys)) ≡ cond empty (suc (empty_slots xs)) (empty_slots xs) + empty_slots ys
    by_first true rest = omega arith
    by_first false rest = rest

none_left : (left count have : ℕ) → left ≡ count - have → eqb left 0 ≡ leb count have
none_left zero count have e = sym (le-leb count have (omega arith))
none_left (suc left) count have e = ne_eqb (suc left) 0 (λ z. omega arith) ∙ sym (lt-leb count have (omega arith))

-- what is wanted after the slots from a start on, and then after those before it: all are found where nothing is left
in_parts : (keys : List ℕ) (start count after left : ℕ) → after ≡ count - empty_slots (drop start keys) → left ≡ after - empty_slots (take start keys)
    → eqb left 0 ≡ leb count (empty_slots keys)
in_parts keys start count after left e f =
    let all : empty_slots keys ≡ empty_slots (take start keys) + empty_slots (drop start keys) = ap empty_slots (sym (take-append-drop start keys)) ∙ joined _ _ in
    none_left left count (empty_slots keys) (omega arith)

-- as the code has the parts: two numbers for each slot
pub both_parts : (slots : List ℕ) (start count after left : ℕ)
    → after ≡ count - empty_slots (keys_of (take (length slots - 2 * start) (drop (2 * start) slots)))
    → left ≡ after - empty_slots (keys_of (take (2 * start) slots)) → eqb left 0 ≡ leb count (empty_slots (keys_of slots))
both_parts slots start count after left e f =
    let rest : take (length slots - 2 * start) (drop (2 * start) slots) ≡ drop (2 * start) slots =
    rw (← length-drop (2 * start) slots) (take-length (drop (2 * start) slots)) in
    in_parts (keys_of slots) start count after left
    (rw (rest, keys_after slots start) at e)
    (rw (keys_before slots start) at f)

pub later_whole : (slots : List ℕ) (start : ℕ) → start ≤ length slots / 2 → length slots % 2 ≡ 0
    → length (take (length slots - 2 * start) (drop (2 * start) slots)) % 2 ≡ 0
later_whole slots start h whole =
    let long : length (take (length slots - 2 * start) (drop (2 * start) slots)) ≡ length slots - 2 * start =
    length-take-le _ _ (rw (length-drop (2 * start) slots) (omega arith)) in
    rw long (omega arith)

pub earlier_whole : (slots : List ℕ) (start : ℕ) → start ≤ length slots / 2 → length (take (2 * start) slots) % 2 ≡ 0
earlier_whole slots start h = rw (length-take-le (2 * start) slots (omega arith)) (omega arith)

-- the loop goes through half as many slots as there are numbers
pub in_slots : (slots : List ℕ) (i : ℕ) → length slots % 2 ≡ 0 → i < length slots / 2 → i < length (keys_of slots)
in_slots slots i whole h = rw (keys_whole slots whole) h

pub past_slots : (slots : List ℕ) (i : ℕ) → length slots % 2 ≡ 0 → length slots / 2 ≤ i → length (keys_of slots) ≤ i
past_slots slots i whole h = rw (keys_whole slots whole) h

-- what `has_empty` answers, as the test that a decision makes
pub too_few : (r : Bool) (count have : ℕ) → r ≡ leb count have → not r ≡ true → ltb have count ≡ true
too_few r count have e n = lt-ltb have count (leb-false count have (sym e ∙ not-true r n))

pub enough : (r : Bool) (count have : ℕ) → r ≡ leb count have → not r ≡ false → ltb have count ≡ false
enough r count have e n = le-ltb have count (leb-true count have (sym e ∙ not-false r n))
