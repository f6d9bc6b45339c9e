-- Demand 3, as one claim about two whole lists of calls. docs/DEMAND-3.md goes through it clause by clause. Proof: `proofs/Demand3.antt`.
-- Assumes nothing.
use Rattle.std.specs.Prelude.{ℕ, suc, ◌+◌, ◌≤◌, cond, List, [], ◌∷◌, ◌++◌, ◌≢◌, ◌≡◌, leb, length, take, drop, Err}
use Rattle.std.proofs.Math.Option.{Option, none, some}
use Rattle.utf8.specs.Text.{chars_of}
use Rattle.book.specs.declared.Refusal.TheVariants.{Damaged}
use Rattle.book.specs.Returns.{Book, longest_text, lookup_of, Found}
use Rattle.built.specs.Ledger.{Entry, frequency_in, sum_of, EachOnce, ledger_lookup}
use Rattle.built.specs.Calls.{Call, answer_of, book_from, answers_from}
use Rattle.cuts.specs.Cuts.{CutAnswer}
use Rattle.two_books.specs.HeldWords.{held_answer}
use Rattle.two_books.specs.Runs.{Run, ledger_of, Cutter, Areas, Answered}

-- ---- the sentence

-- the characters of a sentence; 01: "a malformed sentence or one over 16,777,215 bytes has none"
abbrev pub or_none : Option (List ℕ) → List ℕ
or_none none = []
or_none (some cs) = cs

abbrev pub characters_of : List ℕ → List ℕ
characters_of sentence = cond (leb (length sentence) longest_text) (or_none (chars_of sentence)) []

-- 01: "A stretch is one or more neighbouring characters of the sentence, up to all of it": so many after a first one, from a position on
abbrev pub stretch : List ℕ → ℕ → ℕ → List ℕ
stretch sentence from more = take (suc more) (drop from (characters_of sentence))

-- "every stretch of consecutive characters is a word of both books with the same frequency, or a word of neither"
abbrev pub SameStretches : List Entry → List Entry → List ℕ → Type 0
SameStretches ledger ledger' sentence =
    (from more : ℕ) → from + suc more ≤ length (characters_of sentence)
    → frequency_in ledger (stretch sentence from more) ≡ frequency_in ledger' (stretch sentence from more)

-- ---- the areas

-- "work areas of equal length and edge areas of equal length, whatever these hold, and token areas that are equal beforehand"
pub record EqualAreas (lent lent' : Areas) : Type 0 where
  pub work_areas : lent.work ≡ lent'.work
  pub edge_areas : lent.edges ≡ lent'.edges
  pub token_areas : lent.tokens ≡ lent'.tokens

-- ---- what is claimed of each book

-- 01: "In a book of demand 3 a word is held exactly when the ledger has it; its frequency is the one there, and the total is the sum over the ledger",
-- which "has words, each once". What is held is what the public lookup finds, of any bytes: whatever it answered, its contract holds of it.
pub record HeldAsLedger (b : Book) (ledger : List Entry) : Type 0 where
  pub lookups : (text : List ℕ) (found : Found) → found ≡ lookup_of b text → found ≡ ledger_lookup ledger text
  pub total : b.head.total ≡ sum_of ledger
  pub once : EachOnce ledger

-- "each call of the lists answers as it defines for the book that call got": the answers are those of the calls before, then this one's, for the book
-- that the calls before left, then those of the calls after
abbrev pub AnswersInTurn : Run → Type 0
AnswersInTurn r =
    (earlier : List Call) (call : Call) (later : List Call) → r.calls ≡ earlier ++ (call ∷ later)
    → take (suc (length earlier)) r.answers
    ≡ answers_from r.roots r.slots r.records earlier ++ (answer_of (book_from r.roots r.slots r.records earlier) call ∷ [])

-- "The cuts' answers, refusals among them, are the ones that document 01 defines from the held words"; 01: "no cut meets damage there"
pub record FromHeldWords (ledger : List Entry) (cutter : Cutter) (lent : Areas) (sentence : List ℕ) (a : CutAnswer) : Type 0 where
  pub defined : a ≡ held_answer cutter ledger lent sentence
  pub undamaged : a.outcome ≢ (Err Damaged)

-- ---- what is claimed of the two

pub record TwoBooks (r r' : Run) (cutter : Cutter) (lent lent' : Areas) (sentence : List ℕ) (a a' : CutAnswer) : Type 0 where
  -- "the same number, the same token count, the same token area, all of it"
  pub alike : a ≡ a'
  pub from_held_words : FromHeldWords (ledger_of r) cutter lent sentence a
  pub from_held_words' : FromHeldWords (ledger_of r') cutter lent' sentence a'
  pub held_as_ledger : HeldAsLedger r.book (ledger_of r)
  pub held_as_ledger' : HeldAsLedger r'.book (ledger_of r')
  pub in_turn : AnswersInTurn r
  pub in_turn' : AnswersInTurn r'

abbrev pub Demand3 : Type 0
Demand3 =
    -- "For every two lists of loads and additions, .. each from an empty book of its own": whatever the calls returned and left, their contracts hold of it
    (r r' : Run)
    -- "After them take any sentence"
    (sentence : List ℕ)
    -- "where every stretch of consecutive characters is a word of both books with the same frequency, or a word of neither"
    → SameStretches (ledger_of r) (ledger_of r') sentence
    -- "and let the two totals be equal"
    → r.book.head.total ≡ r'.book.head.total
    -- "The two cuts get work areas of equal length and edge areas of equal length, .. and token areas that are equal beforehand."
    → (lent lent' : Areas)
    → EqualAreas lent lent'
    -- "each of the three cuts": whatever it answered in each book, its contract holds of it
    → (cutter : Cutter) (a a' : CutAnswer)
    → Answered cutter r.book lent sentence a
    → Answered cutter r'.book lent' sentence a'
    -- "Then each of the three cuts answers alike in both books, whatever other words either holds"
    → TwoBooks r r' cutter lent lent' sentence a a'
