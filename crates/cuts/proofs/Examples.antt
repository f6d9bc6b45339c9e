-- Document 01's starred examples, by computation.
-- Assumes nothing.
use mathlib.Core.Path.{refl}
use lib.Count.{count_leading_zeros}
use lib.Ieee.{span, climb, size, odd, units, round, neg, sum, add, sub, lt, eq, of_int, whole}
use Rattle.utf8.specs.Text.{chars_of, chars_within}
use Rattle.utf8.specs.Characters.{read_from}
use Rattle.utf8.specs.Encoding.{byte_length, encode}
use Rattle.utf8.specs.Utf16.{unit_length}
use Rattle.lines.specs.Lines.{lines_of, meaning_of, fields_of, pieces, frequency_of, number}
use Rattle.classes.specs.WhiteSpace.{white_space}
use Rattle.classes.specs.Ranges.{in_ranges}
use Rattle.classes.specs.Blocks.{cut_class, han, han_main, han_extension, ascii_letter_or_digit, cut_sign}
use Rattle.classes.specs.Tokens.{joins, connector, ascii_letter}
use Rattle.trie.specs.Trie.{get_of, walk, word_at, word_number, tested_step, open_step, bits_at, from_root, node_at, probe_of, probe_from, next_slot, start_slot, log2}
use Rattle.trie.specs.Trie.{key_of, filter_hash, key_bit, child_bit, reach, new_slots, with_bits, with_word, empty_from, empty_slot, extend, insert}
use Rattle.trie.specs.SlotCounts.{slot_count}
use Rattle.arith.specs.Bits.{has_bit, with_bit}
use Rattle.book.specs.Returns.{cell_frequency, allowed, head_damaged, empty_book, lookup_of}
use Rattle.book.specs.Enter.{decide, empty_slots, cell_with_frequency, replaced, inserted, load_lines, load_of}
use Rattle.book.specs.Prefixes.{words_from, walk_on}
use Rattle.score.specs.Logarithm.{log_float, L, log_of, highest_one, significand, next_bit, next_significand, bits_of}
use Rattle.score.specs.Scores.{float_of}
use Rattle.score.proofs.Logarithm.{starred_logarithms}
use Rattle.route.specs.Route.{choose, route_of}
use Rattle.cuts.specs.Blocks.{blocks_of}
use Rattle.cuts.specs.Edges.{walks_of, edges_within}
use Rattle.cuts.specs.Tokens.{steps_from, pieces_of, joined, cut_route, singly, runs_of, parts, parts_of, words_of_size, searched, token_of}
use Rattle.cuts.specs.Cuts.{put_spans, put_walks, cut_block, search_block, cut_all_block, cut_blocks, cut_with, cut_of, cut_all_of, cut_for_search_of}
use Rattle.cuts.specs.Examples.{InOrder, AsManyNumbers, StarredExamples, SearchExamples, Utf16Examples}

pub in_order : InOrder
in_order c d b e u v = refl

pub as_many_numbers : AsManyNumbers
as_many_numbers t = refl

-- all by computation, under one list of the definitions that are computed
examples : StarredExamples × SearchExamples × Utf16Examples
unfolding chars_of chars_within read_from byte_length encode unit_length lines_of meaning_of fields_of pieces frequency_of number white_space in_ranges cut_class han han_main
    han_extension ascii_letter_or_digit cut_sign joins connector ascii_letter get_of walk word_at word_number tested_step open_step bits_at from_root node_at
    probe_of probe_from next_slot start_slot log2 key_of filter_hash key_bit child_bit reach new_slots with_bits with_word empty_from empty_slot extend insert
    slot_count has_bit with_bit cell_frequency allowed head_damaged empty_book lookup_of decide empty_slots cell_with_frequency replaced inserted load_lines load_of words_from walk_on log_float L
    log_of highest_one significand next_bit next_significand bits_of float_of blocks_of walks_of edges_within choose route_of steps_from pieces_of joined cut_route
    singly runs_of parts parts_of words_of_size searched token_of put_spans put_walks cut_block search_block cut_all_block cut_blocks cut_with cut_of cut_all_of
    cut_for_search_of count_leading_zeros span climb size odd units round neg sum add sub lt eq of_int whole
examples = (
  (starred_logarithms, refl, refl, refl, refl, refl, refl, refl, refl, refl, refl, refl, refl, refl, refl, refl, refl, refl),
  (refl, refl, refl, refl, refl, refl),
  (refl, refl, refl, refl),
)

pub starred_examples : StarredExamples
starred_examples = examples.0

pub search_examples : SearchExamples
search_examples = examples.1

pub utf16_examples : Utf16Examples
utf16_examples = examples.2
