-- The two lists of calls that are written out, by computation. A sentence of few characters has few stretches: each is looked up in both ledgers.
-- Assumes nothing.
use mathlib.Core.Path.{refl}
use native.Mathlib.Omega.{arith}
use Prim.Native.Nat.{zero, suc}
use lib.Count.{count_leading_zeros}
use lib.Ieee.{span, climb, size, odd, units, round, neg, sum, add, sub, lt, eq, of_int, whole}
use Rattle.utf8.specs.Text.{chars_of, chars_within}
use Rattle.utf8.specs.Characters.{read_from}
use Rattle.utf8.specs.Encoding.{byte_length, encode}
use Rattle.utf8.specs.Utf16.{unit_length}
use Rattle.lines.specs.Lines.{lines_of, meaning_of, fields_of, pieces, frequency_of, number}
use Rattle.classes.specs.WhiteSpace.{white_space}
use Rattle.classes.specs.Ranges.{in_ranges}
use Rattle.classes.specs.Blocks.{cut_class, han, han_main, han_extension, ascii_letter_or_digit, cut_sign}
use Rattle.classes.specs.Tokens.{joins, connector, ascii_letter}
use Rattle.trie.specs.Trie.{get_of, walk, word_at, word_number, tested_step, open_step, bits_at, from_root, node_at, probe_of, probe_from, next_slot, start_slot, log2}
use Rattle.trie.specs.Trie.{key_of, filter_hash, key_bit, child_bit, reach, new_slots, with_bits, with_word, empty_from, empty_slot, extend, insert}
use Rattle.trie.specs.SlotCounts.{slot_count}
use Rattle.arith.specs.Bits.{has_bit, with_bit}
use Rattle.book.specs.Returns.{cell_frequency, allowed, head_damaged, empty_book, lookup_of}
use Rattle.book.specs.Enter.{decide, empty_slots, cell_with_frequency, replaced, inserted, load_lines, load_of}
use Rattle.book.specs.Prefixes.{words_from, walk_on}
use Rattle.score.specs.Logarithm.{log_float, L, log_of, highest_one, significand, next_bit, next_significand, bits_of}
use Rattle.score.specs.Scores.{float_of}
use Rattle.route.specs.Route.{choose, route_of}
use Rattle.cuts.specs.declared.TokenizeMode.TheVariants.{Default, Search}
use Rattle.cuts.specs.Blocks.{blocks_of}
use Rattle.cuts.specs.Edges.{walks_of, edges_within}
use Rattle.cuts.specs.Tokens.{steps_from, pieces_of, joined, cut_route, singly, runs_of, parts, parts_of, words_of_size, searched, token_of}
use Rattle.cuts.specs.Cuts.{put_spans, put_walks, cut_block, search_block, cut_all_block, cut_blocks, cut_with, cut_of, cut_all_of, cut_for_search_of, tokenize_of}
use Rattle.book.specs.Enter.{add_of}
use Rattle.built.specs.Ledger.{ledger_after_add, ledger_after_load, enter_lines, enter_in, frequency_in, same_word}
use Rattle.built.specs.Calls.{answers_of, answer_of, book_after, book_after_all, ledger_after, ledger_after_all}
use Rattle.two_books.specs.Runs.{ledger_of, Cutter, Cut, CutAll, CutForSearch, Tokenize, Answered}
use Rattle.two_books.specs.Demand3.{SameStretches}
use Rattle.two_books.proofs.Instances.{one_bridge, other_bridge, command, lent, command_answer, NotVacuous, total_of_zero, total_of_one, pair, EachPremiseNeeded}

-- all of it by computation, under one list of the definitions that are computed
examples : NotVacuous × EachPremiseNeeded
unfolding chars_of chars_within read_from byte_length encode unit_length lines_of meaning_of fields_of pieces frequency_of number white_space in_ranges cut_class han han_main
    han_extension ascii_letter_or_digit cut_sign joins connector ascii_letter get_of walk word_at word_number tested_step open_step bits_at from_root node_at
    probe_of probe_from next_slot start_slot log2 key_of filter_hash key_bit child_bit reach new_slots with_bits with_word empty_from empty_slot extend insert
    slot_count has_bit with_bit cell_frequency allowed head_damaged empty_book lookup_of decide empty_slots cell_with_frequency replaced inserted load_lines load_of words_from walk_on log_float L
    log_of highest_one significand next_bit next_significand bits_of float_of blocks_of walks_of edges_within choose route_of steps_from pieces_of joined cut_route
    singly runs_of parts parts_of words_of_size searched token_of put_spans put_walks cut_block search_block cut_all_block cut_blocks cut_with cut_of cut_all_of
    cut_for_search_of tokenize_of count_leading_zeros span climb size odd units round neg sum add sub lt eq of_int whole add_of answers_of answer_of book_after
    book_after_all ledger_after ledger_after_all ledger_after_add ledger_after_load enter_lines enter_in frequency_in same_word
examples = (
  record {
    stretches = same_on_command;
    totals = refl;
    equal = record { work_areas = refl; edge_areas = refl; token_areas = refl };
    answers = refl;
    one_answered = one_cuts;
    other_answered = other_cuts;
  },
  record {
    totals = refl;
    tied = refl;
    not_tied = refl;
    stretches = same_on_pair;
    total_zero_lem = refl;
    total_one_lem = refl;
    shorter_work = refl;
    shorter_edges = refl;
    shorter_tokens = refl;
  },
)
  where
    same_on_command : SameStretches (ledger_of one_bridge) (ledger_of other_bridge) command
    same_on_command zero zero h = refl
    same_on_command zero (suc zero) h = refl
    same_on_command zero (suc (suc zero)) h = refl
    same_on_command (suc zero) zero h = refl
    same_on_command (suc zero) (suc zero) h = refl
    same_on_command (suc (suc zero)) zero h = refl
    same_on_command zero (suc (suc (suc more))) h = absurd (omega arith)
    same_on_command (suc zero) (suc (suc more)) h = absurd (omega arith)
    same_on_command (suc (suc zero)) (suc more) h = absurd (omega arith)
    same_on_command (suc (suc (suc from))) more h = absurd (omega arith)

    same_on_pair : SameStretches (ledger_of total_of_zero) (ledger_of total_of_one) pair
    same_on_pair zero zero h = refl
    same_on_pair zero (suc zero) h = refl
    same_on_pair (suc zero) zero h = refl
    same_on_pair zero (suc (suc more)) h = absurd (omega arith)
    same_on_pair (suc zero) (suc more) h = absurd (omega arith)
    same_on_pair (suc (suc from)) more h = absurd (omega arith)

    one_cuts : (cutter : Cutter) → Answered cutter one_bridge.book lent command (command_answer cutter)
    one_cuts Cut = refl
    one_cuts CutAll = refl
    one_cuts CutForSearch = refl
    one_cuts (Tokenize Default) = refl
    one_cuts (Tokenize Search) = refl

    other_cuts : (cutter : Cutter) → Answered cutter other_bridge.book lent command (command_answer cutter)
    other_cuts Cut = refl
    other_cuts CutAll = refl
    other_cuts CutForSearch = refl
    other_cuts (Tokenize Default) = refl
    other_cuts (Tokenize Search) = refl

pub not_vacuous : NotVacuous
not_vacuous = examples.0

pub each_premise_needed : EachPremiseNeeded
each_premise_needed = examples.1
