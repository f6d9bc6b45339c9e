-- `ThreeTied` and `FiniteNeeded`: the books, their words, the scores and the doubles by computation; of the tie the rest follows by the claims. Behind a word
-- of frequency 0 the path that is taken has the smaller end, so no choice is fixed as the claim has it.
-- Assumes nothing.
use mathlib.Core.Path.{◌≡◌, refl, sym, ◌∙◌, subst}
use mathlib.Core.Bool.{true}
use mathlib.Core.List.Memᴰ
use mathlib.Core.List.{List, [], ◌∷◌}
use mathlib.Core.Logic.{inl}
use Prim.Native.Nat.{ℕ}
use native.Mathlib.Omega.{arith}
use lib.Count.{count_leading_zeros}
use lib.Ieee.{inf, sub, lt, eq, of_int}
use lib.ListN.{get_or}
use Rattle.arith.specs.Bits.{has_bit, with_bit}
use Rattle.utf8.specs.Encoding.{Scalars}
use Rattle.utf8.specs.Text.{chars_of, chars_within}
use Rattle.utf8.specs.Characters.{read_from}
use Rattle.trie.specs.Trie.{get_of, walk, tested_step, open_step, bits_at, from_root, node_at, probe_of, probe_from, start_slot, log2}
use Rattle.trie.specs.Trie.{key_of, filter_hash, key_bit, reach, new_slots, with_bits, with_word, empty_from, empty_slot, extend, insert}
use Rattle.trie.specs.SlotCounts.{slot_count}
use Rattle.score.specs.Scores.{float_of, plus, minus, less_than, equals}
use Rattle.score.specs.Logarithm.{log_float, L, log_of, highest_one, significand, next_bit, next_significand, bits_of}
use Rattle.book.specs.Returns.{allowed, head_damaged, empty_book}
use Rattle.book.specs.Enter.{decide, empty_slots, inserted, add_of}
use Rattle.built.specs.Ledger.{ledger_after_add, enter_in, frequency_in, same_word}
use Rattle.built.specs.Calls.{Call, answers_of, answer_of, book_after, book_after_all, ledger_after, ledger_after_all, allowed_sizes, BuiltByCalls, after}
use Rattle.built.proofs.Claims.{total_is_sum}
use Rattle.route.specs.Route.{Best, choose, route_of}
use Rattle.route.specs.Slices.{nowhere}
use Rattle.best_route.specs.Paths.{Word, edges_of, best_of, score_route, IsPath, Follows, path_score}
use Rattle.best_route.specs.Ties.{SmallerWherePart, IsBest, Finite}
use Rattle.best_route.proofs.Paths.{value}
use Rattle.best_route.proofs.Ties.{not_both, parted, follow_same, score_best}
use Rattle.built_cuts.specs.Claims.{HeldRows, BlockWords, FixedFrom}
use Rattle.built_cuts.specs.Examples.{block, book_of, ledger_of, word, HasRows, tied, tied_rows, three_words, shorter_first, longer_first, ThreeTied}
use Rattle.built_cuts.specs.Examples.{behind_zero, behind_zero_rows, single, joined, FiniteNeeded}
use Rattle.built_cuts.proofs.Rows.{held_after, rows_from, block_words}
use Rattle.built_cuts.proofs.Routes.{rows_forward}
use Rattle.built_cuts.proofs.Ties.{fixed_from}

-- ---- the books

sizes : allowed_sizes 1 16 8
unfolding allowed slot_count log2 count_leading_zeros
sizes = refl

built : (calls : List Call) → BuiltByCalls (book_of calls) (ledger_of calls)
built calls = after 1 16 8 calls sizes

scalars : Scalars block
scalars = (inl (omega arith), (inl (omega arith), (inl (omega arith), tt)))

unfoldable words_of : (calls : List Call) → BlockWords (book_of calls) (ledger_of calls) block
words_of calls = block_words (book_of calls) (ledger_of calls) (built calls) block scalars

books : HasRows tied 12 tied_rows × HasRows behind_zero 9 behind_zero_rows
unfolding chars_of chars_within read_from get_of walk tested_step open_step bits_at from_root node_at probe_of probe_from start_slot log2 key_of filter_hash key_bit reach
    new_slots with_bits with_word empty_from empty_slot extend insert slot_count has_bit with_bit allowed head_damaged empty_book decide empty_slots inserted
    count_leading_zeros add_of answers_of answer_of book_after book_after_all ledger_after ledger_after_all ledger_after_add enter_in frequency_in same_word held_after rows_from
    block_words words_of
books = (
  record { words = words_of tied; same_rows = refl; same_total = refl },
  record { words = words_of behind_zero; same_rows = refl; same_total = refl },
)

held : (calls : List Call) (total : ℕ) (rows : List (List Word)) → HasRows calls total rows → HeldRows (ledger_of calls) block rows
held calls total rows has = subst (HeldRows (ledger_of calls) block) has.same_rows has.words.held

-- ---- scores and doubles

abbrev tied_route : List Best
tied_route = route_of (log_float 12) 0 (edges_of tied_rows)

abbrev behind_zero_route : List Best
behind_zero_route = route_of (log_float 9) 0 (edges_of behind_zero_rows)

record Computed : Type 0 where
  three_words_lem : path_score 12 three_words ≡ value 12 tied_rows 0
  shorter_first_lem : path_score 12 shorter_first ≡ value 12 tied_rows 0
  longer_first_lem : path_score 12 longer_first ≡ value 12 tied_rows 0
  finite : Finite (get_or tied_route 0 nowhere).score
  longer_first_follows : Follows tied_route 0 longer_first
  single_score : path_score 9 single ≡ value 9 behind_zero_rows 0
  joined_score : path_score 9 joined ≡ value 9 behind_zero_rows 0
  minus_infinity_lem : (get_or behind_zero_route 0 nowhere).score ≡ inf true
  single_follows : Follows behind_zero_route 0 single

computed : Computed
unfolding count_leading_zeros sub lt eq of_int float_of plus minus less_than equals log_float L log_of highest_one significand next_bit next_significand bits_of choose
    route_of best_of score_route
computed = record {
  three_words_lem = refl;
  shorter_first_lem = refl;
  longer_first_lem = refl;
  finite = tt;
  longer_first_follows = (refl, (refl, tt));
  single_score = refl;
  joined_score = refl;
  minus_infinity_lem = refl;
  single_follows = (refl, (refl, (refl, tt)));
}

-- ---- a tie of three

three_words_path : IsPath tied_rows 0 three_words
three_words_path = (omega arith, Memᴰ.head refl, (omega arith, Memᴰ.head refl, (omega arith, Memᴰ.head refl, refl)))

shorter_first_path : IsPath tied_rows 0 shorter_first
shorter_first_path = (omega arith, Memᴰ.head refl, (omega arith, Memᴰ.tail (Memᴰ.head refl), refl))

longer_first_path : IsPath tied_rows 0 longer_first
longer_first_path = (omega arith, Memᴰ.tail (Memᴰ.head refl), (omega arith, Memᴰ.head refl, refl))

pub three_tied : ThreeTied
three_tied = record {
  has_rows = books.0;
  three_words_lem = best three_words three_words_path computed.three_words_lem;
  shorter_first_lem = best shorter_first shorter_first_path computed.shorter_first_lem;
  longer_first_lem = best longer_first longer_first_path computed.longer_first_lem;
  fixed = fixed;
  taken = follow_same tied_rows rows_held.rising tied_route fixed.choice.taken longer_first 0
      fixed.choice.best.is_path fixed.choice.follows longer_first_path computed.longer_first_follows;
}
  where
    rows_held : HeldRows (ledger_of tied) block tied_rows
    rows_held = held tied 12 tied_rows books.0

    best : (path : List Word) → IsPath tied_rows 0 path → path_score 12 path ≡ value 12 tied_rows 0 → IsBest 12 tied_rows 0 path
    best = score_best 12 tied_rows (rows_forward (ledger_of tied) block tied_rows rows_held) 0

    fixed : FixedFrom 12 block tied_rows 0
    fixed =
        fixed_from 12 (ledger_of tied) block tied_rows rows_held (sym books.0.same_total ∙ (total_is_sum (book_of tied) (ledger_of tied) (built tied)).0)
        (omega arith) 0 (omega arith) computed.finite

-- ---- a finite score is needed

single_path : IsPath behind_zero_rows 0 single
single_path = (omega arith, Memᴰ.head refl, (omega arith, Memᴰ.head refl, (omega arith, Memᴰ.head refl, refl)))

joined_path : IsPath behind_zero_rows 0 joined
joined_path = (omega arith, Memᴰ.head refl, (omega arith, Memᴰ.tail (Memᴰ.head refl), refl))

larger_end : SmallerWherePart joined single
larger_end = record {
  before = word 1 0 ∷ [];
  step = word 3 1;
  rest = [];
  other_step = word 2 4;
  other_rest = word 3 4 ∷ [];
  goes = refl;
  other_goes = refl;
  smaller = omega arith;
}

pub finite_needed : FiniteNeeded
finite_needed = record {
  has_rows = books.1;
  minus_infinity_lem = computed.minus_infinity_lem;
  follows = follows;
  best = best single single_path computed.single_score;
  other_best = other_best;
  larger = larger_end;
  not_fixed = λ choice.
      let same : choice.taken ≡ single =
      follow_same behind_zero_rows rows_held.rising behind_zero_route choice.taken single 0
      choice.best.is_path choice.follows single_path follows in
      let part = choice.prevails joined other_best (λ equal. parted joined single larger_end (sym same ∙ sym equal)) in
      not_both joined single larger_end (subst (λ (path : List Word). SmallerWherePart path joined) same part);
}
  where
    rows_held : HeldRows (ledger_of behind_zero) block behind_zero_rows
    rows_held = held behind_zero 9 behind_zero_rows books.1

    follows : Follows behind_zero_route 0 single
    follows = computed.single_follows

    best : (path : List Word) → IsPath behind_zero_rows 0 path → path_score 9 path ≡ value 9 behind_zero_rows 0 → IsBest 9 behind_zero_rows 0 path
    best = score_best 9 behind_zero_rows (rows_forward (ledger_of behind_zero) block behind_zero_rows rows_held) 0

    other_best : IsBest 9 behind_zero_rows 0 joined
    other_best = best joined joined_path computed.joined_score
