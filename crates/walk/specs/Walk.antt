-- The walks of `Trie`, as the functions here get their tables: a slice for each part, and the word as a text. Document 01, "Into the trie".
-- Assumes nothing.
use Rattle.std.specs.Prelude.{ℕ, ◌<◌, cond, List, [], ◌∷◌, ◌≡◌, eqb, ltb, length, get_or, Result, Ok, Err, Some, None}
use Rattle.std.proofs.Math.Option.{Option, none, some}
use Rattle.trie.specs.declared.ParentRef.{ParentRef}
use Rattle.trie.specs.declared.ParentRef.TheVariants.{Root, RootEntry, Slot}
use Rattle.trie.specs.Trie.{CharTrie, Reach, Reached, NoEnd, key_of, probe_of, step_by_probe, walk, word_at, get_of, reach, new_slots, new_nodes, Step, WordNumber, damage}
use Rattle.trie.specs.declared.Damaged.{Damaged}
use Rattle.walk.specs.declared.Room.{Room}
use Rattle.walk.specs.declared.Room.TheVariants.{Whole, Partly}

-- a place of a table with so many root entries and slots
unfoldable pub Inside : ℕ → ℕ → ParentRef → Type 0
Inside roots slots Root = Unit {0}
Inside roots slots (RootEntry i) = i < roots
Inside roots slots (Slot i) = i < slots

-- "A first character below the root length uses the root table; any other step uses slots, parent 0 for the root"
unfoldable pub first_step : List ℕ → List ℕ → ℕ → Step
first_step root_children keys ch =
    cond (ltb ch (length root_children))
    (cond (eqb (get_or root_children ch 0) 0) (Ok None) (Ok (Some (RootEntry ch))))
    (step_by_probe (probe_of keys (key_of 0 ch)))

-- where a text's steps lead from a place; a malformed one's lead nowhere
unfoldable pub walk_from : CharTrie → ParentRef → Option (List ℕ) → Step
walk_from t p none = Ok None
walk_from t p (some cs) = walk t p cs

-- what a lookup finds for a text; a malformed one is no word
unfoldable pub got_of : ℕ → CharTrie → Option (List ℕ) → WordNumber
got_of used t none = Ok None
got_of used t (some cs) = get_of used t cs

-- the text has characters, the first of which is this one
unfoldable pub BeginsWith : ℕ → Option (List ℕ) → Type 0
BeginsWith ch none = ⊥
BeginsWith ch (some []) = ⊥
BeginsWith ch (some (c ∷ cs)) = c ≡ ch

-- what new steps take for all of these characters, from a place that is there
unfoldable pub new_steps : CharTrie → ParentRef → List ℕ → Room
new_steps t p cs = Partly (new_slots t p cs) (new_nodes cs)

-- what a new word finds, where its steps that are there end; where that is all of them, what the word number there says
unfoldable pub room_at : ℕ → CharTrie → Reach → Result Room Damaged
room_at used t (Reached p []) = Ok (Whole (word_at used t p))
room_at used t (Reached p (c ∷ cs)) = Ok (new_steps t p (c ∷ cs))
room_at used t NoEnd = Err damage

-- the same for a text, from a place on; a malformed one is not walked
unfoldable pub room_from : ℕ → CharTrie → ParentRef → Option (List ℕ) → Result Room Damaged
room_from used t p none = Err damage
room_from used t p (some cs) = room_at used t (reach t p cs)

-- and for a whole word
abbrev pub room_of : ℕ → CharTrie → Option (List ℕ) → Result Room Damaged
room_of used t cs = room_from used t Root cs
