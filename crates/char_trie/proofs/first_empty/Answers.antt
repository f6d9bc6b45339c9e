-- `char_trie::first_empty` meets its contract. The loop's invariant: i is a slot, and the search of the slots left, from i on, ends as the
-- whole search does. Each turn is a law of `Probes`. Assumes nothing.
use mathlib.Core.Path.{◌≡◌}
use Prim.Native.Nat.{◌+◌, ◌-◌, ◌/◌}
use lib.ListN.{length}
use native.Mathlib.Omega.{arith}
use Rattle.trie.proofs.Probes.{shift_fits, start_below, empty_start, next_is_slot, empty_found, empty_on, empty_endless}
use Rattle.char_trie.proofs.first_empty.Goals as goal

pub index-i-requires : goal.index-i-requires
index-i-requires c = search shift_fits

pub loop-init : goal.loop-init
loop-init c =
    let whole : length c.args.slots.numbers.now / 2 - 0 ≡ length c.args.slots.numbers.now / 2 = omega arith in
    (search start_below, rw whole (search empty_start))

pub returns-then-numbers-i-eq0 : goal.returns-then-numbers-i-eq0
returns-then-numbers-i-eq0 c = empty_found _ _ c.args.slots.table _ _ _ c.loop.invariant.1 (length c.args.slots.numbers.now / 2 - (c.loop.counter + 1)) (omega arith) (omega arith)

pub loop-preserved : goal.loop-preserved
loop-preserved c = (search next_is_slot, search (empty_on, arith))

pub returns : goal.returns
returns c = search (empty_endless, arith)
