-- `word_walk::room_for` meets its contract. The loop's invariant: the place is one of the tables, the text from the position on is well formed, and what
-- it finds from the place is what the whole text finds from the root. Assumes nothing.
use mathlib.Core.Path.{◌≡◌, ap}
use native.Mathlib.Omega.{arith}
use borrow.Author.Rules.{rules}
use Rattle.std.specs.Prelude.{Ok, Some, None}
use Rattle.trie.specs.declared.ParentRef.TheVariants.{Root}
use Rattle.utf8.proofs.Positions.{inside, from_start, value_below, still_chars}
use Rattle.walk.specs.Walk.{room_from}
use Rattle.walk.proofs.Places.{starts_inside, leads_open}
use Rattle.walk.proofs.Characters.{chars_start, begins_with}
use Rattle.word_walk.proofs.Rooms.{room_next, room_missing, room_damaged, room_whole}
use Rattle.word_walk.proofs.room_for.Goals as goal

pub loop-at-init : goal.loop-at-init
loop-at-init c = (omega arith, starts_inside _ _, search chars_start, ap (room_from _ _ Root) (from_start _))

pub open_step-requires : goal.open_step-requires
open_step-requires c = search (rules, value_below)

pub overflow_add-at : goal.overflow_add-at
overflow_add-at c = omega (arith, inside _ _ _ _ _ c.next_char-next.ensures)

pub loop-at-smaller : goal.loop-at-smaller
loop-at-smaller c = omega (arith, inside _ _ _ _ _ c.next_char-next.ensures)

pub loop-at-preserved : goal.loop-at-preserved
loop-at-preserved c =
    let leads : c.open_step.result ≡ Ok (Some c.in-Some.child) = cc c.in_ok-child.was in (
      omega (arith, inside _ _ _ _ _ c.next_char-next.ensures),
      search leads_open,
      search still_chars,
      search room_next,
    )

pub new_steps-requires : goal.new_steps-requires
new_steps-requires c = search begins_with

pub returns-in_default : goal.returns-in_default
returns-in_default c = let nothing : c.open_step.result ≡ Ok None = cc c.in_ok-child.was in search room_missing

pub returns-in_err-child : goal.returns-in_err-child
returns-in_err-child c = search (room_damaged, c.in_err-child.was)

pub returns : goal.returns
returns c = search room_whole
