-- Demand 3. What ran by the contracts is what the definitions say (`Runs`). A book built by calls shows a cut the words and the sum of its ledger
-- (`built`), so its cuts are those from the held words; two ledgers that agree on every stretch of a sentence have the same words at each position of it;
-- and a cut takes nothing else (`Alike`).
-- Assumes nothing.
use mathlib.Core.Path.{◌≡◌, refl, sym, ap, subst, ◌∙◌}
use mathlib.Core.Bool.{false}
use mathlib.Core.List.{List, [], ◌∷◌, ◌++◌}
use mathlib.Core.Option.{some}
use Prim.Native.Nat.{ℕ, zero, suc, ◌+◌, ◌≤◌}
use native.Mathlib.Omega.{arith}
use borrow.Author.Tests.{le-leb}
use lib.ListN.{length, take, drop}
use Rattle.classes.specs.Blocks.{cut_class, cut_all_class}
use Rattle.utf8.specs.Encoding.{Scalars}
use Rattle.utf8.specs.Text.{chars_of}
use Rattle.utf8.proofs.Texts.{texts_only_of_encodings}
use Rattle.book.specs.Returns.{Book, longest_text}
use Rattle.book.specs.Prefixes.{words_from}
use Rattle.built.specs.Ledger.{Entry, frequency_in, sum_of, ledger_words}
use Rattle.built.specs.Calls.{BuiltByCalls}
use Rattle.built.specs.Claims.{SamePrefixes}
use Rattle.built.proofs.Claims.{walk_as_ledger, lookup_as_ledger, total_is_sum, ledger_each_once, no_damage, same_words}
use Rattle.cuts.specs.declared.TokenizeMode.{TokenizeMode}
use Rattle.cuts.specs.declared.TokenizeMode.TheVariants.{Default, Search}
use Rattle.cuts.specs.Blocks.{blocks_of}
use Rattle.cuts.specs.Edges.{vocabulary_of}
use Rattle.cuts.specs.Cuts.{CutAnswer, Tested, tested_book, cut_block, cut_all_block, search_block, cut_blocks, start, cut_by, cut_all_by, cut_for_search_by}
use Rattle.cuts.specs.Cuts.{cut_of, cut_all_of, cut_for_search_of, tokenize_of}
use Rattle.two_books.specs.HeldWords.{held_vocabulary, sound, held_cut, held_cut_all, held_cut_for_search, held_tokenize, held_answer}
use Rattle.two_books.specs.Runs.{ledger_of, Cutter, Cut, CutAll, CutForSearch, Tokenize, Areas, Answered}
use Rattle.two_books.specs.Demand3.{characters_of, SameStretches, EqualAreas, HeldAsLedger, FromHeldWords, Demand3}
use Rattle.two_books.proofs.Alike.{Everywhere, Shortens, cut_alike, search_alike, all_alike, tests_alike}
use Rattle.two_books.proofs.Undamaged.{Fine, fine_cut, fine_search, fine_all, fine_blocks, fine_tests}
use Rattle.two_books.proofs.Runs.{run_built, run_in_turn}

-- ---- a book and its ledger

shortens_scalars : Shortens Scalars
shortens_scalars c [] ds h = (h.0, tt)
shortens_scalars c (d ∷ cs) ds h = (h.0, shortens_scalars d cs ds h.1)

scalars_everywhere : (cs : List ℕ) → Scalars cs → Everywhere Scalars cs
scalars_everywhere [] h = tt
scalars_everywhere (c ∷ cs) h = (h, scalars_everywhere cs h.1)

module _ (b : Book) (ledger : List Entry) (by : BuiltByCalls b ledger) where
  tested : tested_book b ≡ sound
  tested = rw ((no_damage b ledger by).sizes, (no_damage b ledger by).head)

  words_held : (cs : List ℕ) → Scalars cs → (at : ℕ) → words_from b at cs ≡ record { edges = ledger_words ledger at cs; damaged = false }
  words_held cs s at = walk_as_ledger b ledger by at cs s

  total_held : b.head.total ≡ sum_of ledger
  total_held = (total_is_sum b ledger by).0

  -- a text's characters are scalar values, at each of its positions
  read_everywhere : (sentence cs : List ℕ) → chars_of sentence ≡ some cs → Everywhere Scalars cs
  read_everywhere sentence cs e = scalars_everywhere cs (texts_only_of_encodings sentence cs e).0

  module _ (work room : ℕ) (area sentence : List ℕ) where
    cut_held : cut_of b work room area sentence ≡ held_cut ledger work room area sentence
    unfolding cut_of held_cut
    cut_held =
        ap (λ (t : Tested). cut_by t (vocabulary_of b) work room area sentence) tested
        ∙ tests_alike sound work area sentence
        (λ cs. cut_blocks (cut_block (vocabulary_of b) room) start (blocks_of cut_class cs))
        (λ cs. cut_blocks (cut_block (held_vocabulary ledger) room) start (blocks_of cut_class cs))
        (λ cs l e w. cut_alike Scalars shortens_scalars (vocabulary_of b) (held_vocabulary ledger) words_held total_held room cut_class cs
        (read_everywhere sentence cs e) w)

    cut_all_held : cut_all_of b work area sentence ≡ held_cut_all ledger work area sentence
    unfolding cut_all_of held_cut_all
    cut_all_held =
        ap (λ (t : Tested). cut_all_by t (vocabulary_of b) work area sentence) tested
        ∙ tests_alike sound work area sentence
        (λ cs. cut_blocks (cut_all_block (vocabulary_of b)) start (blocks_of cut_all_class cs))
        (λ cs. cut_blocks (cut_all_block (held_vocabulary ledger)) start (blocks_of cut_all_class cs))
        (λ cs l e w. all_alike Scalars shortens_scalars (vocabulary_of b) (held_vocabulary ledger) words_held total_held cut_all_class cs
        (read_everywhere sentence cs e) w)

    cut_for_search_held : cut_for_search_of b work room area sentence ≡ held_cut_for_search ledger work room area sentence
    unfolding cut_for_search_of held_cut_for_search
    cut_for_search_held =
        ap (λ (t : Tested). cut_for_search_by t (vocabulary_of b) work room area sentence) tested
        ∙ tests_alike sound work area sentence
        (λ cs. cut_blocks (search_block (vocabulary_of b) room) start (blocks_of cut_class cs))
        (λ cs. cut_blocks (search_block (held_vocabulary ledger) room) start (blocks_of cut_class cs))
        (λ cs l e w. search_alike Scalars shortens_scalars (vocabulary_of b) (held_vocabulary ledger) words_held total_held room cut_class cs
        (read_everywhere sentence cs e) w)

    tokenize_held : (mode : TokenizeMode) → tokenize_of mode b work room area sentence ≡ held_tokenize mode ledger work room area sentence
    unfolding tokenize_of held_tokenize
    tokenize_held Default = cut_held
    tokenize_held Search = cut_for_search_held

    -- ---- no damage

    cut_fine : Fine (held_cut ledger work room area sentence)
    unfolding held_cut
    cut_fine = fine_tests sound work area sentence _ refl
        (λ cs w. fine_blocks (cut_block (held_vocabulary ledger) room) (fine_cut (held_vocabulary ledger) (λ at cs. refl) room) (blocks_of cut_class cs)
        start w)

    cut_all_fine : Fine (held_cut_all ledger work area sentence)
    unfolding held_cut_all
    cut_all_fine = fine_tests sound work area sentence _ refl
        (λ cs w. fine_blocks (cut_all_block (held_vocabulary ledger)) (fine_all (held_vocabulary ledger) (λ at cs. refl)) (blocks_of cut_all_class cs)
        start w)

    cut_for_search_fine : Fine (held_cut_for_search ledger work room area sentence)
    unfolding held_cut_for_search
    cut_for_search_fine = fine_tests sound work area sentence _ refl
        (λ cs w. fine_blocks (search_block (held_vocabulary ledger) room) (fine_search (held_vocabulary ledger) (λ at cs. refl) room)
        (blocks_of cut_class cs) start w)

    tokenize_fine : (mode : TokenizeMode) → Fine (held_tokenize mode ledger work room area sentence)
    unfolding held_tokenize
    tokenize_fine Default = cut_fine
    tokenize_fine Search = cut_for_search_fine

  -- each of the cuts answers from the held words, and meets no damage
  module _ (lent : Areas) (sentence : List ℕ) where
    answered : (cutter : Cutter) (a : CutAnswer) → Answered cutter b lent sentence a → a ≡ held_answer cutter ledger lent sentence
    answered Cut a e = e ∙ cut_held lent.work lent.edges lent.tokens sentence
    answered CutAll a e = e ∙ cut_all_held lent.work lent.edges lent.tokens sentence
    answered CutForSearch a e = e ∙ cut_for_search_held lent.work lent.edges lent.tokens sentence
    answered (Tokenize mode) a e = e ∙ tokenize_held lent.work lent.edges lent.tokens sentence mode

    fine : (cutter : Cutter) → Fine (held_answer cutter ledger lent sentence)
    fine Cut = cut_fine lent.work lent.edges lent.tokens sentence
    fine CutAll = cut_all_fine lent.work lent.edges lent.tokens sentence
    fine CutForSearch = cut_for_search_fine lent.work lent.edges lent.tokens sentence
    fine (Tokenize mode) = tokenize_fine lent.work lent.edges lent.tokens sentence mode

    from_held_words : (cutter : Cutter) (a : CutAnswer) → Answered cutter b lent sentence a → FromHeldWords ledger cutter lent sentence a
    from_held_words cutter a e = record { defined = answered cutter a e; undamaged = rw (answered cutter a e) (fine cutter) }

  held : HeldAsLedger b ledger
  held = record {
    lookups = λ text found e. e ∙ lookup_as_ledger b ledger by text;
    total = total_held;
    once = ledger_each_once b ledger by;
  }

-- ---- two ledgers

-- a beginning of a first part is a beginning of the whole
beginning : (n : ℕ) (cs ds : List ℕ) → (m : ℕ) × (take m (cs ++ ds) ≡ take n cs)
beginning zero cs ds = (0, refl)
beginning (suc n) [] ds = (0, refl)
beginning (suc n) (c ∷ cs) ds = let p = beginning n cs ds in (suc p.0, ap (λ (l : List ℕ). c ∷ l) p.1)

-- a beginning is one of at most all characters
within : (n : ℕ) (cs : List ℕ) → (m : ℕ) × (m ≤ length cs) × (take m cs ≡ take n cs)
within zero cs = (0, omega arith, refl)
within (suc n) [] = (0, omega arith, refl)
within (suc n) (c ∷ cs) = let p = within n cs in (suc p.0, omega (arith, p.1), ap (λ (l : List ℕ). c ∷ l) p.2)

module _ (ledger ledger' : List Entry) where
  shortens_same : Shortens (SamePrefixes ledger ledger')
  shortens_same c cs ds same n =
      let p = beginning n cs ds in
      rw (← p.1) (same p.0)

  -- the stretches of a text, at each of its positions
  abbrev Stretches : List ℕ → Type 0
  Stretches cs = (from more : ℕ) → from + suc more ≤ length cs
      → frequency_in ledger (take (suc more) (drop from cs)) ≡ frequency_in ledger' (take (suc more) (drop from cs))

  same_everywhere : (cs : List ℕ) → Stretches cs → Everywhere (SamePrefixes ledger ledger') cs
  same_everywhere [] same = tt
  same_everywhere (c ∷ cs) same = (
    λ n. let p = within n cs in rw (← p.2) (same 0 p.0 (omega (arith, p.1))),
    same_everywhere cs (λ from more h. same (suc from) more (omega arith)),
  )

  words_alike : (cs : List ℕ) → SamePrefixes ledger ledger' cs → (at : ℕ) → (held_vocabulary ledger).words at cs ≡ (held_vocabulary ledger').words at cs
  unfolding ledger_words
  words_alike cs same at = rw (same_words ledger ledger' cs [] at same)

  module _ (sentence : List ℕ) (same : SameStretches ledger ledger' sentence) (sums : sum_of ledger ≡ sum_of ledger') where
    characters_read : (cs : List ℕ) → length sentence ≤ longest_text → chars_of sentence ≡ some cs → characters_of sentence ≡ cs
    characters_read cs l e = rw (le-leb (length sentence) longest_text l, e)

    sentence_everywhere : (cs : List ℕ) → length sentence ≤ longest_text → chars_of sentence ≡ some cs → Everywhere (SamePrefixes ledger ledger') cs
    sentence_everywhere cs l e = same_everywhere cs (subst Stretches (characters_read cs l e) same)

    module _ (work room : ℕ) (area : List ℕ) where
      held_cut_alike : held_cut ledger work room area sentence ≡ held_cut ledger' work room area sentence
      unfolding held_cut
      held_cut_alike =
          tests_alike sound work area sentence
          (λ cs. cut_blocks (cut_block (held_vocabulary ledger) room) start (blocks_of cut_class cs))
          (λ cs. cut_blocks (cut_block (held_vocabulary ledger') room) start (blocks_of cut_class cs))
          (λ cs l e w. cut_alike (SamePrefixes ledger ledger') shortens_same (held_vocabulary ledger) (held_vocabulary ledger')
          words_alike sums room cut_class cs (sentence_everywhere cs l e) w)

      held_cut_all_alike : held_cut_all ledger work area sentence ≡ held_cut_all ledger' work area sentence
      unfolding held_cut_all
      held_cut_all_alike =
          tests_alike sound work area sentence
          (λ cs. cut_blocks (cut_all_block (held_vocabulary ledger)) start (blocks_of cut_all_class cs))
          (λ cs. cut_blocks (cut_all_block (held_vocabulary ledger')) start (blocks_of cut_all_class cs))
          (λ cs l e w. all_alike (SamePrefixes ledger ledger') shortens_same (held_vocabulary ledger) (held_vocabulary ledger')
          words_alike sums cut_all_class cs (sentence_everywhere cs l e) w)

      held_cut_for_search_alike : held_cut_for_search ledger work room area sentence ≡ held_cut_for_search ledger' work room area sentence
      unfolding held_cut_for_search
      held_cut_for_search_alike =
          tests_alike sound work area sentence
          (λ cs. cut_blocks (search_block (held_vocabulary ledger) room) start (blocks_of cut_class cs))
          (λ cs. cut_blocks (search_block (held_vocabulary ledger') room) start (blocks_of cut_class cs))
          (λ cs l e w. search_alike (SamePrefixes ledger ledger') shortens_same (held_vocabulary ledger) (held_vocabulary ledger')
          words_alike sums room cut_class cs (sentence_everywhere cs l e) w)

      held_tokenize_alike : (mode : TokenizeMode) → held_tokenize mode ledger work room area sentence ≡ held_tokenize mode ledger' work room area sentence
      unfolding held_tokenize
      held_tokenize_alike Default = held_cut_alike
      held_tokenize_alike Search = held_cut_for_search_alike

    held_alike : (lent : Areas) (cutter : Cutter) → held_answer cutter ledger lent sentence ≡ held_answer cutter ledger' lent sentence
    held_alike lent Cut = held_cut_alike lent.work lent.edges lent.tokens
    held_alike lent CutAll = held_cut_all_alike lent.work lent.edges lent.tokens
    held_alike lent CutForSearch = held_cut_for_search_alike lent.work lent.edges lent.tokens
    held_alike lent (Tokenize mode) = held_tokenize_alike lent.work lent.edges lent.tokens mode

-- ---- the demand

-- areas that are equal are one
same_areas : (lent lent' : Areas) → EqualAreas lent lent' → lent ≡ lent'
same_areas lent lent' equal = rw (equal.work_areas, equal.edge_areas, equal.token_areas)

pub demand-3 : Demand3
demand-3 r r' sentence same totals lent lent' equal cutter a a' e e' = record {
  alike = of_first.defined ∙ held_alike ledger ledger' sentence same sums lent cutter
      ∙ ap (λ (areas : Areas). held_answer cutter ledger' areas sentence) (same_areas lent lent' equal) ∙ sym of_second.defined;
  from_held_words = of_first;
  from_held_words' = of_second;
  held_as_ledger = held r.book ledger (run_built r);
  held_as_ledger' = held r'.book ledger' (run_built r');
  in_turn = run_in_turn r;
  in_turn' = run_in_turn r';
}
  where
    ledger : List Entry
    ledger = ledger_of r

    ledger' : List Entry
    ledger' = ledger_of r'

    of_first : FromHeldWords ledger cutter lent sentence a
    of_first = from_held_words r.book ledger (run_built r) lent sentence cutter a e

    of_second : FromHeldWords ledger' cutter lent' sentence a'
    of_second = from_held_words r'.book ledger' (run_built r') lent' sentence cutter a' e'

    sums : sum_of ledger ≡ sum_of ledger'
    sums = sym (total_held r.book ledger (run_built r)) ∙ totals ∙ total_held r'.book ledger' (run_built r')
