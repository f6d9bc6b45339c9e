-- `char_trie::step` meets its contract: the two tests of bits, then the step among the slots, are those of `step_from` (`Steps`). Assumes nothing.
use Prim.Native.Nat.{◌<◌}
use mathlib.Core.Path.{◌≡◌}
use native.Mathlib.Omega.{arith}
use Rattle.arith.specs.Bits.{has_bit}
use Rattle.trie.proofs.Steps.{key_bit_below, child_bit_below, key_bit_missing, child_bit_missing, bits_there}
use Rattle.char_trie.proofs.step.Goals as goal

pub has_bit-requires : goal.has_bit-requires
has_bit-requires c = search key_bit_below

pub returns-then-not-has_bit : goal.returns-then-not-has_bit
returns-then-not-has_bit c = search key_bit_missing

pub has_bit-requires-2 : goal.has_bit-requires-2
has_bit-requires-2 c = let below : c.filter_bits-bits.result.child < 32 = search child_bit_below in omega arith

pub returns-then-not-has_bit-2 : goal.returns-then-not-has_bit-2
returns-then-not-has_bit-2 c =
    let second : c.has_bit-2.result ≡ has_bit c.args.child c.filter_bits-bits.result.child = rw c.from.ensures at c.has_bit-2.ensures in
    search child_bit_missing

pub returns : goal.returns
returns c =
    let second : c.has_bit-2.result ≡ has_bit c.args.child c.filter_bits-bits.result.child = rw c.from.ensures at c.has_bit-2.ensures in
    search bits_there
