-- `char_trie::probe` meets its contract. The loop's invariant: i is a slot, a slot is left, and the probe of the slots left, from i on, ends
-- as the whole probe does. Each turn is a law of `Probes`. Assumes nothing.
use native.Mathlib.Omega.{arith}
use borrow.Author.Rules.{rules}
use Rattle.trie.proofs.Probes.{shift_fits, slots_left, key_inside, start_below, probe_start, next_is_slot, probe_found, probe_empty, probe_on, probe_endless}
use Rattle.char_trie.proofs.probe.Goals as goal

pub index-i-requires : goal.index-i-requires
index-i-requires c = search shift_fits

pub loop-numbers-init : goal.loop-numbers-init
loop-numbers-init c = search (start_below, slots_left, probe_start)

pub offset_bounds-numbers-i : goal.offset_bounds-numbers-i
offset_bounds-numbers-i c = search (rules, key_inside)

pub bounds-numbers-i : goal.bounds-numbers-i
bounds-numbers-i c = search key_inside

pub returns-then-stored-key : goal.returns-then-stored-key
returns-then-stored-key c = search probe_found

pub returns-then-stored-eq0 : goal.returns-then-stored-eq0
returns-then-stored-eq0 c = search probe_empty

pub returns-then-left-eq0 : goal.returns-then-left-eq0
returns-then-left-eq0 c = search probe_endless

pub loop-numbers-smaller : goal.loop-numbers-smaller
loop-numbers-smaller c = omega arith

pub loop-numbers-preserved : goal.loop-numbers-preserved
loop-numbers-preserved c = search (next_is_slot, probe_on, arith)
