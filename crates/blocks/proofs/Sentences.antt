-- The loop of `tokenize` over a sentence's blocks: `splitter`'s, with `block_by` for a block and the class of `cut`. The work and edge areas stay as long as
-- they were.
-- Assumes nothing.
use mathlib.Core.Path.{◌≡◌, refl}
use mathlib.Core.List.{List}
use mathlib.Core.Option.{IsSome}
use Prim.Native.Nat.{ℕ, ◌≤◌}
use lib.Ieee.{Float}
use lib.ListN.{length}
use Rattle.trie.specs.Trie.{CharTrie}
use Rattle.utf8.specs.Text.{chars_of}
use Rattle.classes.specs.Blocks.{cut_class}
use Rattle.book.specs.Returns.{longest_text}
use Rattle.cuts.specs.Edges.{vocabulary_of}
use Rattle.runs.specs.declared.CharacterClass.TheVariants.{Default}
use Rattle.runs.specs.declared.Run.{Run}
use Rattle.runs.specs.Runs.{class_of, Recorded}
use Rattle.splitter.proofs.OneKind.{one_kind}
use Rattle.splitter.proofs.Cutting as Loop
use Rattle.block.specs.declared.Plan.{Plan}
use Rattle.block.specs.Plans.{Planned, block_by, OneKind}

-- ---- the areas

pub record SameLong
    (chars chars₀ offsets offsets₀ starts starts₀ : List ℕ) (scores scores₀ : List Float)
    (ends ends₀ records records₀ edge_ends edge_ends₀ edge_records edge_records₀ tokens tokens₀ : List ℕ) : Type 0 where
  pub long_chars : length chars ≡ length chars₀
  pub long_offsets : length offsets ≡ length offsets₀
  pub long_starts : length starts ≡ length starts₀
  pub long_scores : length scores ≡ length scores₀
  pub long_ends : length ends ≡ length ends₀
  pub long_records : length records ≡ length records₀
  pub long_edge_ends : length edge_ends ≡ length edge_ends₀
  pub long_edge_records : length edge_records ≡ length edge_records₀
  pub long_tokens : length tokens ≡ length tokens₀

-- ---- the loop

-- where it stands, in each book that is lent so
abbrev pub Cutting : CharTrie → List Float → Plan → ℕ → List ℕ → List ℕ → List ℕ → ℕ → ℕ → ℕ → ℕ → Type 0
Cutting trie logarithms plan room = Loop.Cutting Default cut_class (λ b. Planned b trie logarithms plan) (λ b. block_by plan.mode (vocabulary_of b) room)

-- before the first block, where the splitter starts
pub begins : (trie : CharTrie) (logarithms : List Float) (plan : Plan) (room : ℕ) (sentence tokens : List ℕ) (at : ℕ)
    → length sentence ≤ longest_text → IsSome (chars_of sentence) → at ≡ 0
    → Cutting trie logarithms plan room sentence tokens tokens at 0 0 0
unfolding class_of
begins trie logarithms plan room sentence tokens at short some_chars starts = Loop.begins sentence tokens at refl short some_chars starts

-- the characters of a run are all of the class, or all not
pub of_kind : {sentence : List ℕ} {at from : ℕ} {r : Run} {chars offsets : List ℕ}
    → Recorded (class_of Default) sentence at from r chars offsets
    → OneKind cut_class r.matched r.chars chars
unfolding class_of
of_kind run = one_kind cut_class _ _ _ _ _ _ run
