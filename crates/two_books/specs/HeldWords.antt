-- The cuts from the held words alone: document 01, "Two books side by side", "The cuts' numbers, token counts and token areas are those of the sections
-- above with these". A ledger stands for the book: its words are the held ones, its sum is the total, and there is nothing to be damaged.
-- Assumes nothing.
use Rattle.std.specs.Prelude.{ℕ, true, false, List}
use Rattle.built.specs.Ledger.{Entry, sum_of, ledger_words}
use Rattle.cuts.specs.declared.TokenizeMode.{TokenizeMode}
use Rattle.cuts.specs.declared.TokenizeMode.TheVariants.{Default, Search}
use Rattle.cuts.specs.Edges.{Vocabulary}
use Rattle.cuts.specs.Cuts.{CutAnswer, Tested, cut_by, cut_all_by, cut_for_search_by}
use Rattle.two_books.specs.Runs.{Cutter, Cut, CutAll, CutForSearch, Tokenize, Areas}

-- what a cut sees: the held words that start at a position, each with L of its frequency, and the sum over the ledger
abbrev pub held_vocabulary : List Entry → Vocabulary
held_vocabulary ledger = record { words = λ (at : ℕ) (cs : List ℕ). record { edges = ledger_words ledger at cs; damaged = false }; total = sum_of ledger }

-- sizes that are allowed, and no damage
abbrev pub sound : Tested
sound = record { sizes = true; damage = false }

-- the cuts of a sentence's bytes, with a work area and an edge area of the given lengths
unfoldable pub held_cut : List Entry → ℕ → ℕ → List ℕ → List ℕ → CutAnswer
held_cut ledger work room area sentence = cut_by sound (held_vocabulary ledger) work room area sentence

unfoldable pub held_cut_all : List Entry → ℕ → List ℕ → List ℕ → CutAnswer
held_cut_all ledger work area sentence = cut_all_by sound (held_vocabulary ledger) work area sentence

unfoldable pub held_cut_for_search : List Entry → ℕ → ℕ → List ℕ → List ℕ → CutAnswer
held_cut_for_search ledger work room area sentence = cut_for_search_by sound (held_vocabulary ledger) work room area sentence

unfoldable pub held_tokenize : TokenizeMode → List Entry → ℕ → ℕ → List ℕ → List ℕ → CutAnswer
held_tokenize Default ledger work room area sentence = held_cut ledger work room area sentence
held_tokenize Search ledger work room area sentence = held_cut_for_search ledger work room area sentence

-- each of the cuts, by the areas that it is lent
abbrev pub held_answer : Cutter → List Entry → Areas → List ℕ → CutAnswer
held_answer Cut ledger lent sentence = held_cut ledger lent.work lent.edges lent.tokens sentence
held_answer CutAll ledger lent sentence = held_cut_all ledger lent.work lent.tokens sentence
held_answer CutForSearch ledger lent sentence = held_cut_for_search ledger lent.work lent.edges lent.tokens sentence
held_answer (Tokenize mode) ledger lent sentence = held_tokenize mode ledger lent.work lent.edges lent.tokens sentence
