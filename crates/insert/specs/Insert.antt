-- Insertion as the code takes it apart. What an insertion is says `Trie.insert`, from document 01. It goes in two parts: the steps that are there get
-- their bits, and then the steps that are not there are made. Here each part has a definition of its own; `Claims` says that they come to `Trie.insert`.
-- Assumes nothing.
use Rattle.std.specs.Prelude.{ℕ, ◌/◌, cond, List, [], ◌∷◌, ℤ, drop, Result, Ok, Err, Some, None}
use Rattle.std.proofs.Math.Option.{get_or, IsSome}
use Rattle.utf8.specs.Text.{chars_of}
use Rattle.trie.specs.declared.ParentRef.{ParentRef}
use Rattle.trie.specs.declared.ParentRef.TheVariants.{RootEntry, Slot}
use Rattle.trie.specs.declared.Damaged.{Damaged}
use Rattle.trie.specs.Trie.{CharTrie, key_of, node_at, from_root, open_step, Reach, Reached, NoEnd, with_bits, new_root_entry, new_slot, empty_slot}
use Rattle.trie.specs.Trie.{extend}
use Rattle.walk.specs.Walk.{Inside}
use Rattle.insert.specs.declared.Marked.{Marked}

-- ---- the tables and the word, as they are lent

-- the characters of a text; none where it is malformed, which no caller lends
unfoldable pub characters : List ℕ → List ℕ
characters s = get_or (chars_of s) []

-- ---- the steps that are there

-- a trie with its marks, and how far the word's steps are there
pub record MarkedTrie : Type 0 where
  pub reach : Reach
  pub trie : CharTrie

abbrev pub marked : Reach → CharTrie → MarkedTrie
marked r t = record { reach = r; trie = t }

-- "A new word's insertion tests no bits and sets them at each step": the steps from a place on that are there, up to the "first absent step"
unfoldable pub mark : CharTrie → ParentRef → List ℕ → MarkedTrie
mark t p [] = marked (Reached p []) t
mark t p (c ∷ cs) = elim (open_step t p c) [ Ok (Some q) ↦ mark (with_bits t p c) q cs | Ok None ↦ marked (Reached p (c ∷ cs)) t | Err d ↦ marked NoEnd t ]

-- what is left to do after the marks: the steps that are not there
unfoldable pub extend_marked : MarkedTrie → ℕ → ℤ → CharTrie
extend_marked m node number = elim m.reach [ Reached p cs ↦ extend m.trie p cs node number | NoEnd ↦ m.trie ]

-- the code has the rest of the word as a position in its text
unfoldable pub reach_of : List ℕ → Result Marked Damaged → Reach
reach_of s (Ok m) = Reached m.place (characters (drop m.at s))
reach_of s (Err d) = NoEnd

-- the code ends at a place inside tables of so many entries and of slots of so many numbers, and at a position from which its text is well-formed
unfoldable pub Ready : ℕ → ℕ → List ℕ → Result Marked Damaged → Type 0
Ready entries numbers s (Ok m) = Inside entries (numbers / 2) m.place × IsSome (chars_of (drop m.at s))
Ready entries numbers s (Err d) = Unit {0}

-- ---- the steps that are new

-- a step, and the trie after it
pub record Stepped : Type 0 where
  pub step : Result ParentRef Damaged
  pub trie : CharTrie

abbrev pub stepped : Result ParentRef Damaged → CharTrie → Stepped
stepped r t = record { step = r; trie = t }

-- a new step among the slots, by where the search for an empty one ended: "the parent's slot gains" its bits, and the slot is taken
unfoldable pub new_step_by : Result ℕ Damaged → CharTrie → ParentRef → ℕ → ℕ → Stepped
new_step_by (Ok i) t p c node = stepped (Ok (Slot i)) (new_slot (with_bits t p c) i (key_of (node_at t p) c) node)
new_step_by (Err d) t p c node = stepped (Err d) t

-- a new step "starts with word number -1 and no bits, and takes the next node number and, among slots, the first empty one from its start"
unfoldable pub new_step : CharTrie → ParentRef → ℕ → ℕ → Stepped
new_step t p c node =
    cond (from_root t p c) (stepped (Ok (RootEntry c)) (new_root_entry t c node)) (new_step_by (empty_slot t.keys (key_of (node_at t p) c)) t p c node)

-- what is left to do after a new step: the steps for the rest of the word, with the node numbers that follow
unfoldable pub extend_stepped : Stepped → List ℕ → ℕ → ℤ → CharTrie
extend_stepped r cs node number = elim r.step [ Ok q ↦ extend r.trie q cs node number | Err d ↦ r.trie ]
