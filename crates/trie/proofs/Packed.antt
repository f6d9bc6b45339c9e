-- The lent tables: what is read of a link, and the lists of keys, children and word numbers that roots and slots hold. A number that stands at 2 × i is
-- the key of slot i, and one at 2 × i + 1 its link. A store at the one stores the key and leaves the links; a store at the other stores the link's child
-- and its word number and leaves the keys. Assumes nothing.
use Prim.Native.Nat.{ℕ, zero, suc, ◌+◌, ◌-◌, ◌*◌, ◌/◌, ◌%◌, ◌^◌, ◌≤◌, ◌<◌}
use mathlib.Core.Path.{◌≡◌, refl, sym, ap, ◌∙◌}
use mathlib.Core.Bool.{Bool, true, false, cond}
use mathlib.Core.List.{List, [], ◌∷◌, map}
use native.Mathlib.Omega.{arith}
use borrow.Author.Tests.{lt-ltb, le-ltb}
use lib.Dec.{eqb}
use lib.IntN.{pos}
use lib.ListN.{length, get_or, set, take, drop, replicate, length-drop, length-map, get_or-map}
use lib.Pow.{field, mod-mod-pow}
use lib.Seq.{get_or-drop, map-set_same}
use Rattle.std.specs.Prelude.{Ok, Err, Some, None}
use Rattle.arith.specs.Bits.{bit_of, has_bit, with_bit}
use Rattle.arith.proofs.Bits.{keeps_high_bits, stays_within_width}
use Rattle.trie.specs.Claims.{TablesTellSlices}
use Rattle.trie.specs.Trie.{CharTrie, no_word, word_number, child_of, word_before, word_of, children_of, words_of, firsts, keys_of, links_of, damage}

-- ---- one link

pub child_is : (link : ℕ) → link % 2 ^ 32 ≡ child_of link
unfolding child_of
child_is link = refl

word_after : (link n : ℕ) → link / 2 ^ 32 ≡ suc n → word_of link ≡ pos n
unfolding word_of
word_after link n e = rw e

module _ (link used : ℕ) where
  pub no_word_lem : link / 2 ^ 32 ≡ 0 → Ok None ≡ word_number used (word_of link)
  unfolding word_number word_of
  no_word_lem e = rw e

  module _ (some : link / 2 ^ 32 ≡ 0 → ⊥) where
    is : word_of link ≡ pos (link / 2 ^ 32 - 1)
    is = word_after link (link / 2 ^ 32 - 1) (omega arith)

    pub is_record : link / 2 ^ 32 ≤ used → Ok (Some (link / 2 ^ 32 - 1)) ≡ word_number used (word_of link)
    unfolding word_number
    is_record h = rw (is, lt-ltb (link / 2 ^ 32 - 1) used (omega arith))

    pub is_bad : used < link / 2 ^ 32 → Err damage ≡ word_number used (word_of link)
    unfolding word_number
    is_bad h = rw (is, le-ltb (link / 2 ^ 32 - 1) used (omega arith))

-- a link with another word number
module _ (link number : ℕ) where
  pub child_kept : child_of ((number + 1) * 2 ^ 32 + link % 2 ^ 32) ≡ child_of link
  unfolding child_of
  child_kept = omega arith

  pub word_stored : word_of ((number + 1) * 2 ^ 32 + link % 2 ^ 32) ≡ pos number
  word_stored = word_after ((number + 1) * 2 ^ 32 + link % 2 ^ 32) number (omega arith)

-- a new one is the node
module _ (link node : ℕ) (fits : node < 2 ^ 32) (is : link ≡ node) where
  pub new_child : child_of link ≡ node
  unfolding child_of
  new_child = omega arith

  pub new_word : word_of link ≡ no_word
  unfolding word_of
  new_word = let none : link / 2 ^ 32 ≡ 0 = omega arith in rw none

-- a bit below 32, set in a link, is set in its child
low_bit : (x n : ℕ) → n < 32 → bit_of (x % 2 ^ 32) n ≡ bit_of x n
low_bit x n h =
    let e : 31 - n + (1 + n) ≡ 32 = omega arith in
    let same : x % 2 ^ 32 % 2 ^ (1 + n) ≡ x % 2 ^ (1 + n) = ap (λ (w : ℕ). x % 2 ^ w % 2 ^ (1 + n)) (sym e) ∙ mod-mod-pow x (31 - n) (1 + n) in
    sym (field (x % 2 ^ 32) 1 n) ∙ ap (λ (r : ℕ). r / 2 ^ n) same ∙ field x 1 n

module _ (link bit x : ℕ) (below : bit < 32) (set : x ≡ with_bit link bit) where
  by_value : (b : Bool) → has_bit link bit ≡ b → cond b (link % 2 ^ 32) (link % 2 ^ 32 + 2 ^ bit) < 2 ^ 32
      → cond b link (link + 2 ^ bit) % 2 ^ 32 ≡ cond b (link % 2 ^ 32) (link % 2 ^ 32 + 2 ^ bit)
  by_value true e fits = refl
  by_value false e fits = omega arith

  same_bit : has_bit (link % 2 ^ 32) bit ≡ has_bit link bit
  unfolding has_bit
  same_bit = ap (λ (b : ℕ). eqb b 1) (low_bit link bit below)

  pub child_bit_set : child_of x ≡ with_bit (child_of link) bit
  unfolding child_of with_bit
  child_bit_set =
      let fits : with_bit (link % 2 ^ 32) bit < 2 ^ 32 = stays_within_width 32 (link % 2 ^ 32) bit (omega arith) below in
      rw (set, same_bit) (by_value (has_bit link bit) refl (rw same_bit at fits))

  pub child_bit_word : word_of x ≡ word_of link
  unfolding word_of
  child_bit_word = rw (set, keeps_high_bits link bit 32 below)

-- ---- lists of links

pub length_children : (links : List ℕ) → length (children_of links) ≡ length links
unfolding children_of
length_children links = length-map links child_of

pub length_words : (links : List ℕ) → length (words_of links) ≡ length links
unfolding words_of
length_words links = length-map links word_of

pub child_at : (links : List ℕ) (i : ℕ) → get_or (children_of links) i 0 ≡ child_of (get_or links i 0)
unfolding children_of child_of
child_at links i = get_or-map child_of links i 0

-- also past the end, where 0 stands for a link: its word number is none
pub word_at_lem : (links : List ℕ) (i : ℕ) → get_or (words_of links) i no_word ≡ word_of (get_or links i 0)
unfolding words_of word_of
word_at_lem links i = get_or-map word_of links i 0

map_set : {B : Type 0} (f : ℕ → B) (l : List ℕ) (i x : ℕ) → map f (set l i x) ≡ set (map f l) i (f x)
map_set f [] i x = refl
map_set f (y ∷ ys) zero x = refl
map_set f (y ∷ ys) (suc i) x = ap (λ (l : List _). f y ∷ l) (map_set f ys i x)

module _ (links : List ℕ) (i link : ℕ) where
  pub set_child : children_of (set links i link) ≡ set (children_of links) i (child_of link)
  unfolding children_of
  set_child = map_set child_of links i link

  pub set_word : words_of (set links i link) ≡ set (words_of links) i (word_of link)
  unfolding words_of
  set_word = map_set word_of links i link

  pub same_child : child_of link ≡ child_of (get_or links i 0) → children_of (set links i link) ≡ children_of links
  unfolding children_of
  same_child e = map-set_same child_of links i link 0 e

  pub same_word_lem : word_of link ≡ word_of (get_or links i 0) → words_of (set links i link) ≡ words_of links
  unfolding words_of
  same_word_lem e = map-set_same word_of links i link 0 e

map_replicate : {B : Type 0} (f : ℕ → B) (n x : ℕ) → map f (replicate n x) ≡ replicate n (f x)
map_replicate f zero x = refl
map_replicate f (suc n) x = ap (λ (l : List _). f x ∷ l) (map_replicate f n x)

pub no_children : (n : ℕ) → children_of (replicate n 0) ≡ replicate n 0
unfolding children_of child_of
no_children n = map_replicate child_of n 0

pub no_words : (n : ℕ) → words_of (replicate n 0) ≡ replicate n no_word
unfolding words_of word_of
no_words n = map_replicate word_of n 0

-- ---- every other number, by the index that counts two at a time

abbrev twice : ℕ → ℕ
twice zero = 0
twice (suc n) = suc (suc (twice n))

twice_is : (n : ℕ) → twice n ≡ 2 * n
twice_is zero = refl
twice_is (suc n) = let e : twice n ≡ 2 * n = twice_is n in omega arith

first_at : (xs : List ℕ) (i : ℕ) → get_or (firsts xs) i 0 ≡ get_or xs (twice i) 0
unfolding firsts
first_at [] i = refl
first_at (x ∷ []) zero = refl
first_at (x ∷ []) (suc i) = refl
first_at (x ∷ y ∷ xs) zero = refl
first_at (x ∷ y ∷ xs) (suc i) = first_at xs i

first_set : (xs : List ℕ) (i v : ℕ) → firsts (set xs (twice i) v) ≡ set (firsts xs) i v
unfolding firsts
first_set [] i v = refl
first_set (x ∷ []) zero v = refl
first_set (x ∷ []) (suc i) v = refl
first_set (x ∷ y ∷ xs) zero v = refl
first_set (x ∷ y ∷ xs) (suc i) v = ap (λ (l : List ℕ). x ∷ l) (first_set xs i v)

second_set : (xs : List ℕ) (i v : ℕ) → firsts (set xs (suc (twice i)) v) ≡ firsts xs
unfolding firsts
second_set [] i v = refl
second_set (x ∷ []) i v = refl
second_set (x ∷ y ∷ xs) zero v = refl
second_set (x ∷ y ∷ xs) (suc i) v = ap (λ (l : List ℕ). x ∷ l) (second_set xs i v)

firsts_long : (xs : List ℕ) → length (firsts xs) ≡ (length xs + 1) / 2
unfolding firsts
firsts_long [] = refl
firsts_long (x ∷ []) = refl
firsts_long (x ∷ y ∷ xs) = let e : length (firsts xs) ≡ (length xs + 1) / 2 = firsts_long xs in omega arith

firsts_drop : (xs : List ℕ) (i : ℕ) → firsts (drop (twice i) xs) ≡ drop i (firsts xs)
unfolding firsts
firsts_drop xs zero = refl
firsts_drop [] (suc i) = refl
firsts_drop (x ∷ []) (suc zero) = refl
firsts_drop (x ∷ []) (suc (suc i)) = refl
firsts_drop (x ∷ y ∷ xs) (suc i) = firsts_drop xs i

firsts_take : (xs : List ℕ) (i : ℕ) → firsts (take (twice i) xs) ≡ take i (firsts xs)
unfolding firsts
firsts_take xs zero = refl
firsts_take [] (suc i) = refl
firsts_take (x ∷ []) (suc zero) = refl
firsts_take (x ∷ []) (suc (suc i)) = refl
firsts_take (x ∷ y ∷ xs) (suc i) = ap (λ (l : List ℕ). x ∷ l) (firsts_take xs i)

firsts_replicate : (n v : ℕ) → firsts (replicate n v) ≡ replicate ((n + 1) / 2) v
unfolding firsts
firsts_replicate zero v = refl
firsts_replicate (suc zero) v = refl
firsts_replicate (suc (suc n)) v =
    let more : (suc (suc n) + 1) / 2 ≡ suc ((n + 1) / 2) = omega arith in
    rw more (ap (λ (l : List ℕ). v ∷ l) (firsts_replicate n v))

-- ---- slots

-- a store of a key: at an even index the links' part, which begins one number later, is not reached
links_kept : (xs : List ℕ) (i v : ℕ) → firsts (drop 1 (set xs (twice i) v)) ≡ firsts (drop 1 xs)
links_kept [] i v = refl
links_kept (x ∷ xs) zero v = refl
links_kept (x ∷ xs) (suc i) v = second_set xs i v

link_set : (xs : List ℕ) (i v : ℕ) → firsts (drop 1 (set xs (suc (twice i)) v)) ≡ set (firsts (drop 1 xs)) i v
unfolding firsts
link_set [] i v = refl
link_set (x ∷ xs) i v = first_set xs i v

module _ (slots : List ℕ) where
  -- half as many keys, and as many links
  pub length_keys : length (keys_of slots) ≡ (length slots + 1) / 2
  unfolding keys_of
  length_keys = firsts_long slots

  pub length_links : length (links_of slots) ≡ length slots / 2
  unfolding links_of
  length_links = firsts_long (drop 1 slots) ∙ rw (length-drop 1 slots) (omega arith)

  pub keys_whole : length slots % 2 ≡ 0 → length (keys_of slots) ≡ length slots / 2
  keys_whole e = length_keys ∙ omega arith

  module _ (i : ℕ) where
    even : twice i ≡ 2 * i
    even = twice_is i

    odd : suc (twice i) ≡ 2 * i + 1
    odd = omega (arith, twice_is i)

    pub key_at : get_or (keys_of slots) i 0 ≡ get_or slots (2 * i) 0
    unfolding keys_of
    key_at = first_at slots i ∙ ap (λ (n : ℕ). get_or slots n 0) even

    pub link_at : get_or (links_of slots) i 0 ≡ get_or slots (2 * i + 1) 0
    unfolding links_of
    link_at = first_at (drop 1 slots) i ∙ get_or-drop 1 slots (twice i) 0 ∙ ap (λ (n : ℕ). get_or slots n 0) (omega (arith, twice_is i))

    module _ (v : ℕ) where
      pub set_key : keys_of (set slots (2 * i) v) ≡ set (keys_of slots) i v
      unfolding keys_of
      set_key = rw (← even) (first_set slots i v)

      pub set_key_links : links_of (set slots (2 * i) v) ≡ links_of slots
      unfolding links_of
      set_key_links = rw (← even) (links_kept slots i v)

      pub set_link : links_of (set slots (2 * i + 1) v) ≡ set (links_of slots) i v
      unfolding links_of
      set_link = rw (← odd) (link_set slots i v)

      pub set_link_keys : keys_of (set slots (2 * i + 1) v) ≡ keys_of slots
      unfolding keys_of
      set_link_keys = rw (← odd) (second_set slots i v)

    -- a part of the slots, cut between two of them
    pub keys_after : keys_of (drop (2 * i) slots) ≡ drop i (keys_of slots)
    unfolding keys_of
    keys_after = rw (← even) (firsts_drop slots i)

    pub keys_before : keys_of (take (2 * i) slots) ≡ take i (keys_of slots)
    unfolding keys_of
    keys_before = rw (← even) (firsts_take slots i)

-- zeros
pub no_keys : (n : ℕ) → keys_of (replicate n 0) ≡ replicate ((n + 1) / 2) 0
unfolding keys_of
no_keys n = firsts_replicate n 0

pub no_links : (n : ℕ) → links_of (replicate n 0) ≡ replicate (n / 2) 0
unfolding links_of firsts
no_links zero = refl
no_links (suc n) = let more : (n + 1) / 2 ≡ suc n / 2 = omega arith in rw (← more) (firsts_replicate n 0)

-- ---- the tables tell the slices

before_tells : (m n : ℕ) → word_before m ≡ word_before n → m ≡ n
before_tells zero zero e = refl
before_tells zero (suc n) e = let z : ◌≡◌ {A = ℕ} 0 1 = cc in absurd (omega arith)
before_tells (suc m) zero e = let z : ◌≡◌ {A = ℕ} 0 1 = cc in absurd (omega arith)
before_tells (suc m) (suc n) e = let same : m ≡ n = cc in ap suc same

-- a link is its child and its word number
link_told : (x y : ℕ) → child_of x ≡ child_of y → word_of x ≡ word_of y → x ≡ y
unfolding child_of word_of
link_told x y child word = let high : x / 2 ^ 32 ≡ y / 2 ^ 32 = before_tells (x / 2 ^ 32) (y / 2 ^ 32) word in omega (arith, child)

links_told : (xs ys : List ℕ) → children_of xs ≡ children_of ys → words_of xs ≡ words_of ys → xs ≡ ys
unfolding children_of words_of
links_told [] [] c w = refl
links_told [] (y ∷ ys) c w = let z : ◌≡◌ {A = ℕ} 0 1 = cc in absurd (omega arith)
links_told (x ∷ xs) [] c w = let z : ◌≡◌ {A = ℕ} 0 1 = cc in absurd (omega arith)
links_told (x ∷ xs) (y ∷ ys) c w =
    let child : child_of x ≡ child_of y = cc in
    let word : word_of x ≡ word_of y = cc in
    let children : map child_of xs ≡ map child_of ys = cc in
    let words : map word_of xs ≡ map word_of ys = cc in
    let first = link_told x y child word in
    let rest = links_told xs ys children words in
    cc

-- keys and links, taken by turns, are the slots
first_then : (x : ℕ) (xs : List ℕ) → firsts (x ∷ xs) ≡ x ∷ firsts (drop 1 xs)
unfolding firsts
first_then x [] = refl
first_then x (y ∷ ys) = refl

slots_told : (xs ys : List ℕ) → firsts xs ≡ firsts ys → firsts (drop 1 xs) ≡ firsts (drop 1 ys) → xs ≡ ys
unfolding firsts
slots_told [] [] k l = refl
slots_told [] (y ∷ ys) k l = let e : ◌≡◌ [] (y ∷ firsts (drop 1 ys)) = k ∙ first_then y ys in let z : ◌≡◌ {A = ℕ} 0 1 = cc in absurd (omega arith)
slots_told (x ∷ xs) [] k l = let e : x ∷ firsts (drop 1 xs) ≡ [] = sym (first_then x xs) ∙ k in let z : ◌≡◌ {A = ℕ} 0 1 = cc in absurd (omega arith)
slots_told (x ∷ xs) (y ∷ ys) k l =
    let e : x ∷ firsts (drop 1 xs) ≡ y ∷ firsts (drop 1 ys) = sym (first_then x xs) ∙ k ∙ first_then y ys in
    let first : x ≡ y = cc in
    let others : firsts (drop 1 xs) ≡ firsts (drop 1 ys) = cc in
    let rest = slots_told xs ys l others in
    cc

pub tables_tell_slices : TablesTellSlices
unfolding keys_of links_of
tables_tell_slices roots slots roots' slots' e =
    let links = links_told (links_of slots) (links_of slots') (ap (λ (t : CharTrie). t.children) e) (ap (λ (t : CharTrie). t.words) e) in (
      links_told roots roots' (ap (λ (t : CharTrie). t.root_children) e) (ap (λ (t : CharTrie). t.root_words) e),
      slots_told slots slots' (ap (λ (t : CharTrie). t.keys) e) links,
    )
