-- `word_walk::get` meets its contract: where the steps lead, the word number says what is found (`Lookups`). Assumes nothing.
use mathlib.Core.Path.{◌≡◌}
use Rattle.std.specs.Prelude.{Ok, Some, None}
use Rattle.word_walk.proofs.Lookups.{reads_inside, get_nothing, get_damaged, get_number}
use Rattle.word_walk.proofs.get.Goals as goal

pub word_at-requires : goal.word_at-requires
word_at-requires c = let leads : c.walk.result ≡ Ok (Some c.in-Some.place) = cc c.in_ok-place.was in search reads_inside

pub returns-in_err-place : goal.returns-in_err-place
returns-in_err-place c = search (get_damaged, c.in_err-place.was)

pub returns-in_default : goal.returns-in_default
returns-in_default c = let nothing : c.walk.result ≡ Ok None = cc c.in_ok-place.was in search get_nothing

pub returns : goal.returns
returns c = let leads : c.walk.result ≡ Ok (Some c.in-Some.place) = cc c.in_ok-place.was in search get_number
