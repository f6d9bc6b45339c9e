-- `word_walk::walk` meets its contract. The loop's invariant: the place is one of the tables, the text from the position on is well formed, and its steps
-- from the place lead where those of the whole text lead from the root. Assumes nothing.
use mathlib.Core.Path.{◌≡◌, ap}
use native.Mathlib.Omega.{arith}
use borrow.Author.Rules.{rules}
use Rattle.std.specs.Prelude.{Ok, Some, None}
use Rattle.trie.specs.declared.ParentRef.TheVariants.{Root}
use Rattle.utf8.proofs.Positions.{inside, from_start, value_below, still_chars}
use Rattle.walk.specs.Walk.{walk_from}
use Rattle.walk.proofs.Places.{starts_inside, leads_tested}
use Rattle.walk.proofs.Characters.{chars_start}
use Rattle.word_walk.proofs.Lookups.{walk_next, walk_nothing, walk_damaged, walk_end}
use Rattle.word_walk.proofs.walk.Goals as goal

pub loop-at-init : goal.loop-at-init
loop-at-init c = (
  omega arith,
  starts_inside _ _,
  search chars_start,
  ap (walk_from _ Root) (from_start _),
)

pub tested_step-requires : goal.tested_step-requires
tested_step-requires c = search (rules, value_below)

pub overflow_add-at : goal.overflow_add-at
overflow_add-at c = omega (arith, inside _ _ _ _ _ c.next_char-next.ensures)

pub loop-at-smaller : goal.loop-at-smaller
loop-at-smaller c = omega (arith, inside _ _ _ _ _ c.next_char-next.ensures)

pub loop-at-preserved : goal.loop-at-preserved
loop-at-preserved c =
    let leads : c.tested_step.result ≡ Ok (Some c.in-Some.child) = cc c.in_ok-child.was in (
      omega (arith, inside _ _ _ _ _ c.next_char-next.ensures),
      search leads_tested,
      search still_chars,
      search walk_next,
    )

pub returns-in_default : goal.returns-in_default
returns-in_default c = let nothing : c.tested_step.result ≡ Ok None = cc c.in_ok-child.was in search walk_nothing

pub returns-in_err-child : goal.returns-in_err-child
returns-in_err-child c = search (walk_damaged, c.in_err-child.was)

pub returns : goal.returns
returns c = search walk_end
