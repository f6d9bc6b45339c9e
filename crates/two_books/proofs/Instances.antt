-- Demand 3 on lists of calls that are written out: what it says of them is not empty, and each of its premises is needed.
-- Texts are bytes, with what they read above them. The lists ran by `every_list_runs`, a theorem over the definitions of `specs/Runs.antt`, so they
-- stand beside the proofs: an edit of those definitions is to be refused by a proof. Proofs of the claims: `proofs/Examples.antt`.
-- Assumes nothing.
use Rattle.std.specs.Prelude.{ℕ, List, [], ◌∷◌, ◌≡◌, refl, replicate, Ok, Err}
use Rattle.book.specs.declared.Refusal.TheVariants.{BadFrequency, WorkTooShort, EdgesFull, TokensFull}
use Rattle.std.specs.Int.Count.{count_leading_zeros}
use Rattle.trie.specs.SlotCounts.{slot_count}
use Rattle.trie.specs.Trie.{log2}
use Rattle.book.specs.Returns.{Book, allowed, empty_book}
use Rattle.built.specs.Calls.{Call, Load, Add, answer, answer_of, book_after, book_after_all, answers_of, allowed_sizes, book_from, answers_from}
use Rattle.cuts.specs.declared.TokenizeMode.TheVariants.{Default, Search}
use Rattle.cuts.specs.Tokens.{written}
use Rattle.cuts.specs.Cuts.{CutAnswer}
use Rattle.cuts.specs.Cuts as Cuts
use Rattle.two_books.specs.Runs.{Ran, ended, went, Run, ledger_of, Cutter, Cut, CutAll, CutForSearch, Tokenize, Areas, Answered}
use Rattle.two_books.specs.Demand3.{SameStretches, EqualAreas}

-- ---- lists that ran

-- every list of calls runs so, with the answers and the books that document 01 defines
pub every_list_runs : (b : Book) (calls : List Call) → Ran b calls (answers_of b calls) (book_after_all b calls)
unfolding answers_of book_after_all answer_of book_after
every_list_runs b [] = ended
every_list_runs b (Load text ∷ calls) = went _ refl (every_list_runs (book_after b (Load text)) calls)
every_list_runs b (Add word frequency ∷ calls) = went _ refl (every_list_runs (book_after b (Add word frequency)) calls)

abbrev pub run_of : (roots slots records : ℕ) → allowed_sizes roots slots records → List Call → Run
run_of roots slots records allowed calls = record {
  roots = roots;
  slots = slots;
  records = records;
  allowed = allowed;
  calls = calls;
  answers = answers_from roots slots records calls;
  book = book_from roots slots records calls;
  ran = every_list_runs (empty_book roots slots records) calls;
}

-- ---- two bridges

-- 客厅灯 9 LF 客厅 1 LF 灯 1 LF
abbrev pub devices : List ℕ
devices =
    229 ∷ 174 ∷ 162 ∷ 229 ∷ 142 ∷ 133 ∷ 231 ∷ 129 ∷ 175 ∷ 32 ∷ 57 ∷ 10 ∷
    229 ∷ 174 ∷ 162 ∷ 229 ∷ 142 ∷ 133 ∷ 32 ∷ 49 ∷ 10 ∷
    231 ∷ 129 ∷ 175 ∷ 32 ∷ 49 ∷ 10 ∷ []

-- 灯
abbrev pub lamp : List ℕ
lamp = 231 ∷ 129 ∷ 175 ∷ []

-- 甲
abbrev pub another : List ℕ
another = 231 ∷ 148 ∷ 178 ∷ []

-- 乙丙
abbrev pub others : List ℕ
others = 228 ∷ 185 ∷ 153 ∷ 228 ∷ 184 ∷ 153 ∷ []

-- 客厅灯
abbrev pub command : List ℕ
command = 229 ∷ 174 ∷ 162 ∷ 229 ∷ 142 ∷ 133 ∷ 231 ∷ 129 ∷ 175 ∷ []

-- the sizes of the books below are allowed
pub small : allowed_sizes 1 16 4
unfolding allowed slot_count log2 count_leading_zeros
small = refl

pub larger : allowed_sizes 64 32 8
unfolding allowed slot_count log2 count_leading_zeros
larger = refl

-- one bridge: 1 root entry, 16 slots and 4 records, and 甲 4 beside the devices
abbrev pub one_bridge : Run
one_bridge = run_of 1 16 4 small (Load devices ∷ Add another 4 ∷ [])

-- another model: 64 root entries, 32 slots and 8 records; 灯 first has another frequency, 乙丙 4 stands beside the devices, and a frequency over
-- 4,294,967,295 is refused
abbrev pub other_bridge : Run
other_bridge = run_of 64 32 8 larger (Add lamp 9 ∷ Load devices ∷ Add others 4294967296 ∷ Add others 4 ∷ [])

-- places for 4 characters, for 8 edges, and for 4 tokens, each number 7 beforehand
abbrev pub areas : ℕ → ℕ → ℕ → Areas
areas work edges numbers = record { work = work; edges = edges; tokens = replicate numbers 7 }

abbrev pub lent : Areas
lent = areas 4 8 24

-- a cut is done, with so many tokens and these numbers in the token area
abbrev pub done : ℕ → List ℕ → CutAnswer
done count numbers = Cuts.answer (Ok tt) (written count numbers)

-- what each cut of the command answers: 客厅灯; 客厅, 客厅灯 and 灯; 客厅 and 客厅灯
abbrev pub one_word : CutAnswer
one_word = done 1 (0 ∷ 3 ∷ 0 ∷ 9 ∷ 0 ∷ 3 ∷ replicate 18 7)

abbrev pub every_word : CutAnswer
every_word = done 3 (0 ∷ 2 ∷ 0 ∷ 6 ∷ 0 ∷ 2 ∷ 0 ∷ 3 ∷ 0 ∷ 9 ∷ 0 ∷ 3 ∷ 2 ∷ 3 ∷ 6 ∷ 9 ∷ 2 ∷ 3 ∷ replicate 6 7)

abbrev pub search_words : CutAnswer
search_words = done 2 (0 ∷ 2 ∷ 0 ∷ 6 ∷ 0 ∷ 2 ∷ 0 ∷ 3 ∷ 0 ∷ 9 ∷ 0 ∷ 3 ∷ replicate 12 7)

abbrev pub command_answer : Cutter → CutAnswer
command_answer Cut = one_word
command_answer CutAll = every_word
command_answer CutForSearch = search_words
command_answer (Tokenize Default) = one_word
command_answer (Tokenize Search) = search_words

-- the two lists meet demand 3's premises, and each cut answers the same in both books, with tokens; they hold other words beside, and one call was refused
pub record NotVacuous : Type 0 where
  pub stretches : SameStretches (ledger_of one_bridge) (ledger_of other_bridge) command
  pub totals : one_bridge.book.head.total ≡ other_bridge.book.head.total
  pub equal : EqualAreas lent lent
  pub answers : other_bridge.answers ≡ answer (Ok tt) 9 ∷ answer (Ok tt) 3 ∷ answer (Err BadFrequency) 0 ∷ answer (Ok tt) 4 ∷ []
  pub one_answered : (cutter : Cutter) → Answered cutter one_bridge.book lent command (command_answer cutter)
  pub other_answered : (cutter : Cutter) → Answered cutter other_bridge.book lent command (command_answer cutter)

-- ---- each premise is needed

-- 甲乙
abbrev pub pair : List ℕ
pair = 231 ∷ 148 ∷ 178 ∷ 228 ∷ 185 ∷ 153 ∷ []

-- 甲 0, 甲乙 0
abbrev pub total_of_zero : Run
total_of_zero = run_of 1 16 4 small (Add another 0 ∷ Add pair 0 ∷ [])

-- the same with 丙 1
abbrev pub total_of_one : Run
total_of_one = run_of 1 16 4 small (Add another 0 ∷ Add pair 0 ∷ Add (228 ∷ 184 ∷ 153 ∷ []) 1 ∷ [])

-- document 01's own pair, of equal totals: 甲 16, 乙 16, 甲乙 4, 丙 28, and 甲 16, 乙 16, 甲乙 3, 丙 29
abbrev pub in_fours : ℕ → ℕ → List Call
in_fours two three = Add another 16 ∷ Add (228 ∷ 185 ∷ 153 ∷ []) 16 ∷ Add pair two ∷ Add (228 ∷ 184 ∷ 153 ∷ []) three ∷ []

abbrev pub tie : Run
tie = run_of 1 16 4 small (in_fours 4 28)

abbrev pub no_tie : Run
no_tie = run_of 1 16 4 small (in_fours 3 29)

-- 甲乙 as one token, and as two, in an area of two places
abbrev pub one_token : CutAnswer
one_token = done 1 (0 ∷ 2 ∷ 0 ∷ 6 ∷ 0 ∷ 2 ∷ replicate 6 7)

abbrev pub two_tokens : CutAnswer
two_tokens = done 2 (0 ∷ 1 ∷ 0 ∷ 3 ∷ 0 ∷ 1 ∷ 1 ∷ 2 ∷ 3 ∷ 6 ∷ 1 ∷ 2 ∷ [])

pub record EachPremiseNeeded : Type 0 where
  -- with another frequency on one stretch, 甲乙, and equal totals: one token or two
  pub totals : tie.book.head.total ≡ no_tie.book.head.total
  pub tied : Answered Cut tie.book (areas 3 8 12) pair one_token
  pub not_tied : Answered Cut no_tie.book (areas 3 8 12) pair two_tokens
  -- with other totals, and the same words on every stretch of 甲乙: two tokens or one
  pub stretches : SameStretches (ledger_of total_of_zero) (ledger_of total_of_one) pair
  pub total_zero_lem : Answered Cut total_of_zero.book (areas 3 8 12) pair two_tokens
  pub total_one_lem : Answered Cut total_of_one.book (areas 3 8 12) pair one_token
  -- in one book: with a work area one shorter, with an edge area of 2, and with a token area of one place
  pub shorter_work : Answered Cut one_bridge.book (areas 3 8 24) command (Cuts.answer (Err WorkTooShort) (written 0 (replicate 24 7)))
  pub shorter_edges : Answered Cut one_bridge.book (areas 4 2 24) command (Cuts.answer (Err EdgesFull) (written 0 (replicate 24 7)))
  pub shorter_tokens : Answered CutForSearch one_bridge.book (areas 4 8 6) command (Cuts.answer (Err TokensFull) (written 1 (0 ∷ 2 ∷ 0 ∷ 6 ∷ 0 ∷ 2 ∷ [])))
