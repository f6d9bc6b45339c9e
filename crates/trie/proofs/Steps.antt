-- A character's bits, and a step from what a walk has read. The hash is below 2^32, so its quotients by 2^28 and by 2^25, modulo 8, are below 16 and
-- 8. A root entry has no key; in its place a walk carries all ones, in which each of 64 bits is set, so that the test of the key's bit passes.
-- Assumes nothing.
use Prim.Native.Nat.{ℕ, ◌-◌, ◌+◌, ◌*◌, ◌/◌, ◌%◌, ◌^◌, ◌<◌}
use mathlib.Core.Path.{◌≡◌, refl, sym, ap, ◌∙◌}
use mathlib.Core.Bool.{Bool, true, false, not, ◌&&◌}
use mathlib.Core.List.{List}
use native.Mathlib.Nat.{pow-suc}
use native.Mathlib.Omega.{arith}
use borrow.Author.Tests.{eq-eqb, not-true, not-false}
use lib.ListN.{length, get_or, set}
use lib.Pow.{pow_pos, ones_lt, ones_split, high}
use lib.Seq.{get_or-set_same}
use Rattle.std.specs.Prelude.{Ok, None}
use Rattle.arith.specs.Bits.{has_bit, with_bit}
use Rattle.arith.proofs.Bits.{sets_its_bit}
use Rattle.trie.specs.Trie.{key_of, filter_hash, key_bit, child_bit, node_at, from_root, probe_of, step_by_probe, open_step, bits_at, with_bits, tested_step, step_from, Step}
use Rattle.trie.specs.Claims.{KeyBitRange, ChildBitRange, SetsTestedBits, StepsFromSlot, all_ones, StepsFromRootEntry}

-- ---- bits

pub key_bit_range : KeyBitRange
unfolding key_bit filter_hash
key_bit_range ch = (omega arith, omega arith)

pub child_bit_range : ChildBitRange
unfolding child_bit filter_hash
child_bit_range ch = (omega arith, omega arith)

-- the bits as the code works them out, from the product of `wrapping_mul_u32`
pub key_bit_is : (ch h : ℕ) → h ≡ ch * 0x9E3779B1 % 2 ^ 32 → 48 + h / 2 ^ 28 ≡ key_bit ch
unfolding key_bit filter_hash
key_bit_is ch h e = rw e

pub child_bit_is : (ch h : ℕ) → h ≡ ch * 0x9E3779B1 % 2 ^ 32 → 24 + h / 2 ^ 25 % 8 ≡ child_bit ch
unfolding child_bit filter_hash
child_bit_is ch h e = rw e

-- what the tests of a bit require
pub key_bit_below : (ch bit : ℕ) → bit ≡ key_bit ch → bit < 64
key_bit_below ch bit e = rw e (key_bit_range ch).1

pub child_bit_below : (ch bit : ℕ) → bit ≡ child_bit ch → bit < 32
child_bit_below ch bit e = rw e (child_bit_range ch).1

-- a bit that is set in an element of a list is there afterwards
pub bit_there : (l : List ℕ) (i bit : ℕ) → i < length l → has_bit (get_or (set l i (with_bit (get_or l i 0) bit)) i 0) bit ≡ true
bit_there l i bit h = let same = get_or-set_same l i (with_bit (get_or l i 0) bit) 0 h in rw same (sets_its_bit (get_or l i 0) bit)

-- ---- places

pub steps_from_slot : StepsFromSlot
unfolding tested_step bits_at open_step from_root node_at step_from
steps_from_slot t i ch = refl

-- 2^64 - 1 over 2^n is 2^(64 - n) - 1, which is odd
ones_have_bit : (n : ℕ) → n < 64 → has_bit all_ones n ≡ true
unfolding has_bit
ones_have_bit n inside =
    let width : 64 - n + n ≡ 64 = omega arith in
    let parts : all_ones ≡ (2 ^ (64 - n) - 1) * 2 ^ n + (2 ^ n - 1) = ap (λ (w : ℕ). 2 ^ w - 1) (sym width) ∙ ones_split (64 - n) n in
    let quotient : all_ones / 2 ^ n ≡ 2 ^ (64 - n) - 1 = ap (λ (x : ℕ). x / 2 ^ n) parts ∙ high (2 ^ (64 - n) - 1) n (ones_lt n) in
    let even : 2 ^ (64 - n) ≡ 2 ^ (63 - n) * 2 = ap (λ (w : ℕ). 2 ^ w) (omega arith) ∙ pow-suc 2 (63 - n) in
    eq-eqb (all_ones / 2 ^ n % 2) 1 (omega (arith, pow_pos (63 - n)))

pub steps_from_root_entry : StepsFromRootEntry
unfolding tested_step bits_at open_step from_root node_at step_from
steps_from_root_entry t i ch = rw (ones_have_bit (key_bit ch) (key_bit_range ch).1, step_from)

-- ---- what an insertion sets is what a lookup tests

and-true : (a b : Bool) → a ≡ true → b ≡ true → (a && b) ≡ true
and-true a b h k = rw h k

pub sets_tested_bits : SetsTestedBits
unfolding with_bits bits_at
sets_tested_bits t ch i = (
  bit_there t.root_children i (child_bit ch),
  λ h k. and-true _ _ (bit_there t.keys i (key_bit ch) h) (bit_there t.children i (child_bit ch) k),
)

-- ---- a step as the code takes it: after the key's bit and the child's bit, the probe

module _ (keys : List ℕ) (filter child ch bit : ℕ) (bit_is : bit ≡ key_bit ch) (a : Bool) (first : a ≡ has_bit filter bit) where
  at_key : has_bit filter (key_bit ch) ≡ a
  at_key = rw (← bit_is) (sym first)

  pub key_bit_missing : not a ≡ true → Ok None ≡ step_from keys filter child ch
  unfolding step_from
  key_bit_missing missing = rw (at_key, not-true a missing, step_from)

  module _ (set : not a ≡ false) (bit' : ℕ) (bit_is' : bit' ≡ child_bit ch) (b : Bool) (second : b ≡ has_bit child bit') where
    at_child : has_bit child (child_bit ch) ≡ b
    at_child = rw (← bit_is') (sym second)

    pub child_bit_missing : not b ≡ true → Ok None ≡ step_from keys filter child ch
    unfolding step_from
    child_bit_missing missing = rw (at_key, not-false a set, at_child, not-true b missing, step_from)

    pub bits_there : (r : Step) → not b ≡ false → r ≡ step_by_probe (probe_of keys (key_of (child % 2 ^ 24) ch)) → r ≡ step_from keys filter child ch
    unfolding step_from
    bits_there r set' e = rw (at_key, not-false a set, at_child, not-false b set', step_from) e
