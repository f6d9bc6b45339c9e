-- `cut_all::cut_all` meets its contract: the tests' refusal is its answer, or what `cut_all_blocks` answers is, by the laws of `Sentences`.
-- Assumes nothing.
use Rattle.std.specs.Prelude.{Ok, Err}
use Rattle.std.proofs.Common.{rules}
use Prim.Native.Nat.{ℕ}
use mathlib.Core.List.{List}
use mathlib.Core.Bool.{true}
use mathlib.Core.Path.{◌≡◌, refl}
use Rattle.book.specs.declared.Refusal.{Refusal}
use Rattle.book.specs.Returns.{is_done}
use Rattle.book.proofs.Outcomes.{not_done}
use Rattle.cut_all.proofs.Sentences.{Tests, tested, is_refused, slot_count_lem, table, short, some_chars, room_chars, room_offsets, is_cut, has_begun_here}
use Rattle.cut_all.proofs.cut_all.Goals as goal
use Rattle.cut_all.proofs.cut_all.Goals.{After-begin, After-from_residual, After-cut_all_blocks, In_ok-map_err}

-- the outcome of the tests, from what `shorter` and `begin` ensure
tests : (c : goal.After-begin)
    → let args = c.args in
    Tests args.head args.roots.now args.slots.now args.records.now args.logarithms.now
    args.sentence.now args.chars.now args.offsets.now args.tokens.now c.begin.result
tests c = tested _ _ _ _ _ _ _ _ _ _ _ c.shorter-work.ensures (c.begin.ensures _ refl)

-- they pass the sentence
passed : (c : goal.In_ok-map_err) → c.begin.result ≡ Ok tt
passed c = search rules

done : (c : goal.In_ok-map_err) → is_done c.begin.result ≡ true
done c = rw (passed c)

-- they refuse it, which is what is answered, and no token is written
stopped : (c : goal.After-from_residual) → (r : Refusal) × (c.begin.result ≡ Err r) × (c.from_residual.result ≡ Err (record { refusal = r; count = 0 }))
stopped c = search rules

-- the token area after the blocks
abbrev area : goal.After-cut_all_blocks → List ℕ
area c = c.cut_all_blocks.new.tokens

pub returns-in_err-map_err : goal.returns-in_err-map_err
returns-in_err-map_err c =
    let (r, told, answers) = stopped c in
    record { tokens_value = rw answers (is_refused (rw told at (tests (goal.at.returns-in_err-map_err c).After-begin)) (not_done r)); unchanged = λ none. (refl, refl) }

pub shift_of-requires : goal.shift_of-requires
shift_of-requires c = slot_count_lem (tests (goal.at.shift_of-requires c).After-begin) (done c)

pub cut_all_blocks-requires : goal.cut_all_blocks-requires
cut_all_blocks-requires c = let tested = tests (goal.at.cut_all_blocks-requires c).After-begin in
    let passed = done (goal.at.cut_all_blocks-requires c).In_ok-map_err in record { slot_table = table tested passed _ c.shift_of.ensures; sentence_len_bound = (short tested passed, some_chars tested passed); sentence_in_bounds = (room_chars tested passed, room_offsets tested passed) }

pub returns : goal.returns
returns c = let tested = tests (goal.at.returns c).After-begin in
    let passed = done (goal.at.returns c).In_ok-map_err in
    record { tokens_value = is_cut tested passed c.cut_all_blocks.result (area (goal.at.returns c).After-cut_all_blocks) c.cut_all_blocks.ensures; unchanged = λ none. absurd (has_begun_here tested passed none) }
