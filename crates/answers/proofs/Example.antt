-- The two frames, by computation. Assumes nothing.
use mathlib.Core.Path.{refl}
use lib.Count.{count_leading_zeros}
use lib.Ieee.{span, climb, size, odd, units, round, neg, sum, add, sub, lt, eq, of_int, whole}
use Rattle.utf8.specs.Text.{chars_of, chars_within}
use Rattle.utf8.specs.Characters.{read_from}
use Rattle.utf8.specs.Encoding.{byte_length, encode}
use Rattle.utf8.specs.Utf16.{unit_length}
use Rattle.lines.specs.Lines.{lines_of, meaning_of, fields_of, pieces, frequency_of, number}
use Rattle.classes.specs.WhiteSpace.{white_space}
use Rattle.classes.specs.Ranges.{in_ranges}
use Rattle.classes.specs.Blocks.{cut_class, han, han_main, han_extension, ascii_letter_or_digit, cut_sign}
use Rattle.trie.specs.Trie.{get_of, walk, word_at, word_number, tested_step, open_step, bits_at, from_root, node_at, probe_of, probe_from, next_slot, start_slot, log2}
use Rattle.trie.specs.Trie.{key_of, filter_hash, key_bit, child_bit, reach, new_slots, with_bits, with_word, empty_from, empty_slot, extend, insert}
use Rattle.trie.specs.SlotCounts.{slot_count}
use Rattle.arith.specs.Bits.{has_bit, with_bit}
use Rattle.book.specs.Returns.{allowed, head_damaged, empty_book}
use Rattle.book.specs.Enter.{decide, empty_slots, inserted, load_lines, load_of}
use Rattle.book.specs.Prefixes.{words_from, walk_on}
use Rattle.score.specs.Logarithm.{log_float, L, log_of, highest_one, significand, next_bit, next_significand, bits_of}
use Rattle.score.specs.Scores.{float_of}
use Rattle.route.specs.Route.{choose, route_of}
use Rattle.cuts.specs.Blocks.{blocks_of}
use Rattle.cuts.specs.Edges.{walks_of, edges_within}
use Rattle.cuts.specs.Tokens.{steps_from, pieces_of, joined, cut_route, singly, token_of}
use Rattle.cuts.specs.Cuts.{put_spans, cut_block, cut_blocks, cut_with, cut_of}
use Rattle.printing.specs.Answers.{digits, fours, line_of}
use Rattle.frames.specs.Frames.{bytes_of, byte_of, value_of, kind_of, frame_of}
use Rattle.answers.specs.Answers.{answer_of, answer_by, cut_line}
use Rattle.answers.specs.Example.{ExampleFrames}

pub example_frames : ExampleFrames
unfolding chars_of chars_within read_from byte_length encode unit_length lines_of meaning_of fields_of pieces frequency_of number white_space in_ranges cut_class han han_main
    han_extension ascii_letter_or_digit cut_sign get_of walk word_at word_number tested_step open_step bits_at from_root node_at probe_of probe_from next_slot
    start_slot log2 key_of filter_hash key_bit child_bit reach new_slots with_bits with_word empty_from empty_slot extend insert slot_count has_bit with_bit
    allowed head_damaged empty_book decide empty_slots inserted load_lines load_of words_from walk_on log_float L log_of highest_one significand next_bit
    next_significand bits_of float_of blocks_of walks_of edges_within choose route_of steps_from pieces_of joined cut_route singly token_of put_spans cut_block
    cut_blocks cut_with cut_of count_leading_zeros span climb size odd units round neg sum add sub lt eq of_int whole bytes_of byte_of value_of kind_of frame_of digits fours
    line_of answer_of answer_by cut_line
example_frames = (refl, refl)
