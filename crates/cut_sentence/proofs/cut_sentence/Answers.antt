-- `cut_sentence::cut_sentence` meets its contract: refused by the tests, with every area as it was; or the cut of the sentence's blocks (`Wholes`). What
-- the tests say is
-- said once, of the places of the code after them (`tests`, `began`). Assumes nothing.
use Rattle.std.specs.Prelude.{Ok, Err}
use Rattle.std.proofs.Common.{rules}
use mathlib.Core.Bool.{true}
use mathlib.Core.Path.{◌≡◌, refl}
use native.Mathlib.Omega.{arith}
use lib.ListN.{length}
use Rattle.book.specs.declared.Refusal.{Refusal}
use Rattle.book.specs.Returns.{Book, is_done}
use Rattle.book.proofs.Outcomes.{not_done}
use Rattle.trie.specs.Trie.{trie_of}
use Rattle.book.specs.Areas.{book_of}
use Rattle.book.proofs.Areas.{slots_allowed, slot_table}
use Rattle.book.proofs.Sizes.{sizes, head_within}
use Rattle.cuts.specs.Tokens.{written}
use Rattle.cuts.specs.Cuts.{answer, Tested, tested_book, cut_with}
use Rattle.sentence.specs.Sizes.{tested_sizes}
use Rattle.sentence.proofs.Beginning.{Begun, begun, shorter_first_lem, shorter_second}
use Rattle.sentence.proofs.Lent.{tested_lent}
use Rattle.cut_sentence.proofs.Wholes.{refused_cut, whole_cut, work_fits, not_begun, begun_chars, begun_well_formed}
use Rattle.cut_sentence.proofs.cut_sentence.Goals as goal
use Rattle.cut_sentence.proofs.cut_sentence.Goals.{After-begin, After-from_residual, In_ok-map_err, Start}

-- ---- what the tests say of the cut

-- the book that is lent, and its tests by the slices' lengths
module _ (lent : goal.Start) where
  abbrev book : Book
  book =
      book_of lent.args.head (trie_of lent.args.roots.now lent.args.slots.now) lent.args.records.now lent.args.logarithms.now

  abbrev by_sizes : Tested
  by_sizes =
      tested_sizes lent.args.head (length lent.args.roots.now) (length lent.args.slots.now) (length lent.args.records.now)
      (length lent.args.logarithms.now)

  of_book : by_sizes ≡ tested_book book
  of_book = tested_lent _ lent.args.roots.now lent.args.slots.now lent.args.records.now lent.args.logarithms.now

-- after the tests: where the areas were lent, and what was found
module _ (c : goal.After-begin) where
  tests : answer c.begin.result (written 0 c.args.tokens.now)
      ≡ cut_with (by_sizes (goal.at.After-begin c).Start) c.args.work c.args.tokens.now (λ cs. answer (Ok tt)) c.args.sentence.now
  tests = c.begin.ensures _ refl

-- where they refused nothing, the cut has begun
passed : (c : goal.In_ok-map_err) → c.begin.result ≡ Ok tt
passed c = search rules

done : (c : goal.In_ok-map_err) → is_done c.begin.result ≡ true
done c = rw (passed c)

-- where they refused it, that is what is answered, and no token is written
stopped : (c : goal.After-from_residual) → (r : Refusal) × (c.begin.result ≡ Err r) × (c.from_residual.result ≡ Err (record { refusal = r; count = 0 }))
stopped c = search rules

began : (c : goal.In_ok-map_err) → Begun (by_sizes (goal.at.In_ok-map_err c).Start) c.args.work c.args.tokens.now c.args.sentence.now
began c = begun _ _ _ _ _ (tests (goal.at.In_ok-map_err c).After-begin) (done c)

pub shift_of-requires : goal.shift_of-requires
shift_of-requires c = slots_allowed _ _ _ _ (began c).sizes

pub returns-in_err-map_err : goal.returns-in_err-map_err
returns-in_err-map_err c =
    let (r, told, answers) = stopped c in
    record {
      tokens_value = rw answers (refused_cut c.args.mode (book (goal.at.returns-in_err-map_err c).Start) _ (of_book (goal.at.returns-in_err-map_err c).Start) _ c.args.room _ _ (Err r)
          (rw told at (tests (goal.at.returns-in_err-map_err c).After-begin)) (not_done r));
      unchanged = λ none. (refl, refl, refl, refl, refl, refl, refl, refl);
    }

pub overflow_cast-head : goal.overflow_cast-head
overflow_cast-head c = omega (arith, head_within _ _ _ (began (goal.at.overflow_cast-head c).In_ok-map_err).undamaged)

-- ---- the places of the code from the tests to the blocks: the shift, the logarithm, and the blocks' call

pub cut_blocks-requires : goal.cut_blocks-requires
cut_blocks-requires c = let long = sizes _ _ _ _ _ _ _ (began (goal.at.cut_blocks-requires c).In_ok-map_err).sizes in
    let head = head_within _ _ _ (began (goal.at.cut_blocks-requires c).In_ok-map_err).undamaged in record {
      slot_table = (
        slot_table _ _ _ _ (began (goal.at.cut_blocks-requires c).In_ok-map_err).sizes _ c.shift_of.ensures,
        omega (arith, long, head),
        omega (arith, long, head),
      );
      sentence_len_bound = ((began (goal.at.cut_blocks-requires c).In_ok-map_err).short, begun_well_formed _ _ _ _ (began (goal.at.cut_blocks-requires c).In_ok-map_err));
      work_fits = work_fits _ _ _ _ _ _ _ _ (begun_chars _ _ _ _ (began (goal.at.cut_blocks-requires c).In_ok-map_err)) c.requires.0;
      room_in_bounds = (
        omega (arith, c.requires.1, shorter_first_lem (length c.args.edge_ends.now) (length c.args.edge_records.now)),
        omega (arith, c.requires.1, shorter_second (length c.args.edge_ends.now) (length c.args.edge_records.now)),
      );
    }

pub returns : goal.returns
returns c = record {
  tokens_value = whole_cut c.args.mode (book (goal.at.returns c).Start) _ (of_book (goal.at.returns c).Start) _ c.args.room _ _ _ (tests (goal.at.returns c).After-begin) (done (goal.at.returns c).In_ok-map_err) _
      (c.cut_blocks.ensures (book (goal.at.returns c).Start)
      (record { seen = record { same_trie = refl; records = refl }; same_logarithms = refl; same_total = c.log.ensures }));
  unchanged = λ none. absurd (not_begun c.args.mode (book (goal.at.returns c).Start) _ (of_book (goal.at.returns c).Start) _ c.args.room _ _ _ (tests (goal.at.returns c).After-begin) (done (goal.at.returns c).In_ok-map_err) none);
}
