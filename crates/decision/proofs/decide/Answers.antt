-- `decision::decide` meets its contract: each case of what the lookup finds is the case of the decision. Assumes nothing.
use mathlib.Core.Path.{sym, ap, ◌∙◌}
use Prim.Native.Nat.{ℕ, ◌/◌, ◌<◌}
use native.Mathlib.Omega.{arith}
use lib.ListN.{length}
use Rattle.std.specs.Prelude.{Ok, Err, Some, None}
use Rattle.utf8.specs.Text.{chars_of}
use Rattle.book.specs.Enter.{replace_by}
use Rattle.book.proofs.Held.{held_used}
use Rattle.book.proofs.Sizes.{HeadWithin, head_within}
use Rattle.decision.proofs.Decisions.{decided_by_got}
use Rattle.decision.proofs.decide.Goals as goal
use Rattle.decision.proofs.decide.Goals.{After-get, In-Ok-Some}
use Rattle.trie.specs.Trie.{damage}

-- ---- the places of the code: the book and the word are lent, and the word is looked up and held

-- the head's numbers are small, and a word that is held has a record
within : (c : goal.After-get) → HeadWithin c.args.head (length c.args.records.now) (length c.args.slots.now / 2)
within c = head_within _ _ _ c.requires.slots_value

held : (c : goal.In-Ok-Some) → c.in-Ok-Some.n < length c.args.records.now
held c =
    omega (arith, within (goal.at.In-Ok-Some c).After-get, held_used _ _ _ (chars_of c.args.word.now) (sym c.get.ensures ∙ c.in-Ok-Some.is ∙ ap Ok c.in-Ok-Some.field-0-is))

pub offset_bounds-records-n : goal.offset_bounds-records-n
offset_bounds-records-n c = omega (arith, held c, c.requires.some)

pub bounds-records-n : goal.bounds-records-n
bounds-records-n c = omega (arith, held (goal.at.bounds-records-n c).In-Ok-Some)

pub decide_held-requires : goal.decide_held-requires
decide_held-requires c =
    omega (arith, within (goal.at.decide_held-requires c).After-get, c.requires.some)

pub decide_absent-requires : goal.decide_absent-requires
decide_absent-requires c = let pre = c.requires in
    let text = pre.some in
    record { slot_table = pre.slot_table; slots_value = pre.slots_value; some = (text.0, text.1, text.2) }

pub returns-in-Ok-Some : goal.returns-in-Ok-Some
returns-in-Ok-Some c =
    λ l. c.decide_held.ensures
    ∙ ap (λ (old : ℕ). replace_by c.args.head.total old c.in-Ok-Some.n c.args.frequency) c.cell_frequency.ensures
    ∙ decided_by_got _ _ _ (Ok (Some _)) c.requires.some.0 (sym (c.in-Ok-Some.is ∙ ap Ok c.in-Ok-Some.field-0-is) ∙ c.get.ensures)

pub returns-in-Ok-None : goal.returns-in-Ok-None
returns-in-Ok-None c =
    λ l. c.decide_absent.ensures l ∙ decided_by_got _ _ _ (Ok None) c.requires.some.0 (sym (c.in-Ok-None.is ∙ ap Ok c.in-Ok-None.field-0-is) ∙ c.get.ensures)

pub returns-in-Err : goal.returns-in-Err
returns-in-Err c =
    λ l. decided_by_got _ _ _ (Err damage) c.requires.some.0 (sym c.in-Err.is ∙ c.get.ensures)
