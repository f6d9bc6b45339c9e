-- `insert::insert` meets its contract: what `mark` has left to do, `extend` does (`Marks`). Assumes nothing.
use mathlib.Core.Path.{◌∙◌}
use Rattle.walk.proofs.Places.{inside_same}
use Rattle.insert.proofs.Sizes.{table_same}
use Rattle.insert.proofs.Marks.{inserted, not_inserted, place_ready, rest_ready}
use Rattle.insert.proofs.insert.Goals as goal

pub returns-in_default : goal.returns-in_default
returns-in_default c = not_inserted _ _ _ _ _ _ _ c.mark.ensures.slots_value _ c.in_default.is

pub extend-requires : goal.extend-requires
extend-requires c = let at = c.in-Ok.is in
    let kept = c.mark.auto in
    let ready = c.mark.ensures.ready in
    let pre = c.requires in record { slot_table = table_same _ _ _ kept.slots pre.slot_table; inside = inside_same _ _ _ _ _ kept.roots kept.slots (place_ready _ _ _ _ ready _ at); some = rest_ready _ _ _ _ ready _ at; s_bound = pre.s_bound }

pub shape_of-roots : goal.shape_of-roots
shape_of-roots c = c.extend.auto.roots ∙ c.mark.auto.roots

pub shape_of-slots : goal.shape_of-slots
shape_of-slots c = c.extend.auto.slots ∙ c.mark.auto.slots

pub returns : goal.returns
returns c =
    inserted _ _ _ _ _ _ _ c.mark.ensures.slots_value _ _ c.in-Ok.is c.extend.ensures
