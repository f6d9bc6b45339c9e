-- What is claimed of books built by calls: document 01, "Two books side by side", "In a book of demand 3 a word is held exactly when the ledger
-- has it; its frequency is the one there, and the total is the sum over the ledger", and "no cut meets damage there".
-- Each claim is of a book and its ledger as any list of loads and additions leaves them, from an empty book of any sizes that 01 allows.
-- Proofs: `proofs/Claims.antt`.
-- Assumes nothing.
use Rattle.std.specs.Prelude.{◌≡◌, ◌≢◌, true, false, List, [], ◌∷◌, ℕ, suc, ◌≤◌, ◌<◌, length, get_or, take, Ok, Some, None, Err}
use Rattle.std.proofs.Math.Option.{Option, none, some}
use Rattle.std.specs.Float.{nan}
use Rattle.utf8.specs.Encoding.{Scalar, Scalars}
use Rattle.trie.specs.declared.ParentRef.{ParentRef}
use Rattle.trie.specs.declared.ParentRef.TheVariants.{Root}
use Rattle.trie.specs.Trie.{probe_of, open_step, tested_step, walk, get_of, WordNumber, damage}
use Rattle.score.specs.Logarithm.{log_float}
use Rattle.book.specs.declared.Refusal.TheVariants.{Damaged}
use Rattle.book.specs.Returns.{Book, frequency_at, sized, greatest_total, greatest_next, damaged_head, empty_book, emptied, prepare_of, lookup_of}
use Rattle.book.specs.Prefixes.{words_from}
use Rattle.built.specs.Ledger.{Entry, frequency_in, sum_of, EachOnce, ledger_lookup, ledger_words}
use Rattle.built.specs.Calls.{Call, Answer, answers_from, allowed_sizes, BuiltByCalls}
use Rattle.built.specs.Built.{Built}

-- ---- the invariant

-- whatever the calls, the invariant of `Built.antt` holds
abbrev pub BuiltHasInvariant : Type 0
BuiltHasInvariant = (b : Book) (ledger : List Entry) → BuiltByCalls b ledger → Built b ledger

-- what `prepare` leaves of areas of allowed sizes is the empty book, and that is such a book, before any call
abbrev pub PreparedIsBuilt : Type 0
PreparedIsBuilt = (b : Book) → sized b ≡ true
    → (prepare_of b.trie b.records b.logarithms
    ≡ emptied (empty_book (length b.trie.root_children) (length b.trie.keys) (length b.records)))
    × BuiltByCalls (empty_book (length b.trie.root_children) (length b.trie.keys) (length b.records)) []

-- ---- the words

-- what a lookup in the trie finds of a word: where the ledger has it with a frequency, a record of that frequency and "its logarithm as a double", and
-- where the ledger does not have it, nothing. It is never damage.
pub data HeldAs (b : Book) : Option ℕ → WordNumber → Type 0 where
  held : {n frequency : ℕ} → n < b.head.records → frequency_at b n ≡ frequency → get_or b.logarithms n nan ≡ log_float frequency
      → HeldAs b (some frequency) (Ok (Some n))
  absent : HeldAs b none (Ok None)

-- "a word is held exactly when the ledger has it; its frequency is the one there"
abbrev pub HeldAsLedger : Type 0
HeldAsLedger = (b : Book) (ledger : List Entry) → BuiltByCalls b ledger
    → (word : List ℕ) → Scalars word → HeldAs b (frequency_in ledger word) (get_of b.head.records b.trie word)

-- so the public lookup answers by its text and the ledger alone, whatever the bytes
abbrev pub LookupAsLedger : Type 0
LookupAsLedger = (b : Book) (ledger : List Entry) → BuiltByCalls b ledger → (text : List ℕ) → lookup_of b text ≡ ledger_lookup ledger text

-- a cut's walk meets no damage, and its edges are the prefixes that the ledger has, ends rising, each with L of the ledger's frequency
abbrev pub WalkAsLedger : Type 0
WalkAsLedger = (b : Book) (ledger : List Entry) → BuiltByCalls b ledger
    → (at : ℕ) (cs : List ℕ) → Scalars cs → words_from b at cs ≡ record { edges = ledger_words ledger at cs; damaged = false }

-- ---- the total

-- "the total is the sum over the ledger"
abbrev pub TotalIsSum : Type 0
TotalIsSum = (b : Book) (ledger : List Entry) → BuiltByCalls b ledger → (b.head.total ≡ sum_of ledger) × (b.head.total ≤ greatest_total)

-- the ledger "has words, each once"
abbrev pub LedgerEachOnce : Type 0
LedgerEachOnce = (b : Book) (ledger : List Entry) → BuiltByCalls b ledger → EachOnce ledger

-- ---- no damage

-- a book built by calls has allowed sizes and a head without damage: "next node outside 1 to 16,777,215" among it
pub record Undamaged (b : Book) : Type 0 where
  pub sizes : sized b ≡ true
  pub head : damaged_head b ≡ false
  pub next_least : 1 ≤ b.head.next
  pub next_most : b.head.next ≤ greatest_next
  pub probes_end : (key : ℕ) → probe_of b.trie.keys key ≢ Err damage

abbrev pub NoDamage : Type 0
NoDamage = (b : Book) (ledger : List Entry) → BuiltByCalls b ledger → Undamaged b

-- and no call of the list answered with 8
abbrev pub NoneDamaged : List Answer → Type 0
NoneDamaged [] = Unit {0}
NoneDamaged (a ∷ answers) = (a.outcome ≢ (Err Damaged)) × NoneDamaged answers

abbrev pub NoDamageAnswered : Type 0
NoDamageAnswered = (roots slots records : ℕ) (calls : List Call) → allowed_sizes roots slots records → NoneDamaged (answers_from roots slots records calls)

-- ---- the filter bits

-- "In lookups and cuts a step whose bit is missing finds nothing": here no bit is missing, for wherever a word's steps lead, a step that tests the
-- bits finds what one finds that tests none
abbrev pub BitsHideNothing : Type 0
BitsHideNothing = (b : Book) (ledger : List Entry) → BuiltByCalls b ledger
    → (word : List ℕ) (p : ParentRef) (c : ℕ) → Scalars word → Scalar c → walk b.trie Root word ≡ Ok (Some p) → tested_step b.trie p c ≡ open_step b.trie p c

-- ---- two books

-- of characters that follow a position, "every stretch" that starts there "is a word of both books with the same frequency, or a word of neither"
abbrev pub SamePrefixes : List Entry → List Entry → List ℕ → Type 0
SamePrefixes ledger ledger' cs = (n : ℕ) → frequency_in ledger (take (suc n) cs) ≡ frequency_in ledger' (take (suc n) cs)

-- then a walk from the position meets the same words with the same logarithms in both, and no damage, "whatever other words either holds"
abbrev pub TwoBooksWalkAlike : Type 0
TwoBooksWalkAlike =
    (b b' : Book) (ledger ledger' : List Entry) → BuiltByCalls b ledger → BuiltByCalls b' ledger'
    → (at : ℕ) (cs : List ℕ) → Scalars cs → SamePrefixes ledger ledger' cs → words_from b at cs ≡ words_from b' at cs
