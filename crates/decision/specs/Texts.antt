-- How a word enters, as the functions here get it: as a text.
-- Assumes nothing.
use Rattle.std.specs.Prelude.{ℕ, List, Err}
use Rattle.std.proofs.Math.Option.{Option, none, some}
use Rattle.trie.specs.declared.ParentRef.TheVariants.{Root}
use Rattle.trie.specs.Trie.{reach}
use Rattle.book.specs.declared.Refusal.TheVariants.{Malformed}
use Rattle.book.specs.Returns.{Book}
use Rattle.book.specs.Enter.{decide_absent, decide, Decision}

-- how a word enters that the lookup does not find; a text that is malformed does not
unfoldable pub absent_text : Book → Option (List ℕ) → ℕ → Decision
absent_text b none frequency = Err Malformed
absent_text b (some word) frequency = decide_absent b (reach b.trie Root word) frequency

-- how a word enters
unfoldable pub decide_text : Book → Option (List ℕ) → ℕ → Decision
decide_text b none frequency = Err Malformed
decide_text b (some word) frequency = decide b word frequency
