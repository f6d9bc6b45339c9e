-- The three cuts and the choice by mode: the order of their refusals and of what they write, document 01, "What each call returns" and "Tokens".
-- Assumes nothing.
use Rattle.std.specs.Prelude.{ℕ, ◌+◌, ◌%◌, Bool, true, false, cond, ◌&&◌, List, [], ◌∷◌, eqb, leb, ltb, Float, length, Result, Ok, Err}
use Rattle.std.proofs.Math.Option.{Option, none, some}
use Rattle.classes.specs.Blocks.{cut_class, cut_all_class}
use Rattle.utf8.specs.Encoding.{byte_length}
use Rattle.utf8.specs.Utf16.{unit_length}
use Rattle.utf8.specs.Text.{chars_of}
use Rattle.score.specs.Logarithm.{log_float}
use Rattle.book.specs.declared.Refusal.TheVariants.{BadAreas, TooLong, Malformed, Damaged, WorkTooShort, TokensFull}
use Rattle.book.specs.Returns.{Book, is_done, sized, longest_text, damaged_head, Outcome}
use Rattle.book.specs.Prefixes.{Edge, Walked}
use Rattle.route.specs.Route.{route_of}
use Rattle.cuts.specs.declared.CutError.{CutError}
use Rattle.cuts.specs.Blocks.{Block, blocks_of}
use Rattle.cuts.specs.declared.TokenizeMode.{TokenizeMode}
use Rattle.cuts.specs.declared.TokenizeMode.TheVariants.{Default, Search}
use Rattle.cuts.specs.Edges.{Vocabulary, vocabulary_of, walks_of, Edges, edges, stopped, edges_within}
use Rattle.cuts.specs.Tokens.{Span, span, cut_route, singly, runs_of, searched, Base, token_of, token_width, Written, written, has_place, put}

-- what a cut returns, and the token area afterwards
pub record CutAnswer : Type 0 where
  pub outcome : Outcome
  pub written : Written

abbrev pub answer : Outcome → Written → CutAnswer
answer o w = record { outcome = o; written = w }

-- the same from what the code returns, and the token area
abbrev pub cut_answer : Result ℕ CutError → List ℕ → CutAnswer
cut_answer (Ok count) area = answer (Ok tt) (written count area)
cut_answer (Err e) area = answer (Err e.refusal) (written e.count area)

-- then, if nothing stopped it
abbrev pub and_then : CutAnswer → (Written → CutAnswer) → CutAnswer
and_then a next = elim (is_done a.outcome) [ true ↦ next a.written | false ↦ a ]

-- ---- tokens into the area

-- "11: more tokens than places: the first tokens, all places full"
unfoldable pub put_spans : Base → List ℕ → Written → List Span → CutAnswer
put_spans base chars w [] = answer (Ok tt) w
put_spans base chars w (s ∷ ss) =
    elim (has_place w) [ true ↦ put_spans base chars (put w (token_of base chars s)) ss | false ↦ answer (Err TokensFull) w ]

-- ---- a block

-- `cut`: the walk, "then that block's tokens, with 11"
abbrev pub cut_edges : Float → Base → List ℕ → Written → Edges → CutAnswer
cut_edges log_total base chars w (stopped o) = answer o w
cut_edges log_total base chars w (edges rows) = put_spans base chars w (cut_route chars (route_of log_total 0 rows))

unfoldable pub cut_block : Vocabulary → ℕ → Base → Block → Written → CutAnswer
cut_block v room base block w =
    elim block.matched [
      | true ↦ cut_edges (log_float v.total) base block.chars w (edges_within room (walks_of v.words 0 block.chars))
      | false ↦ put_spans base block.chars w (singly 0 block.chars)
    ]

-- `cut_for_search`: the same, with the words that search finds in a token before it; outside the class nothing is walked, so no word is held
abbrev pub search_edges : Float → Base → List ℕ → Written → Edges → CutAnswer
search_edges log_total base chars w (stopped o) = answer o w
search_edges log_total base chars w (edges rows) = put_spans base chars w (searched chars rows (cut_route chars (route_of log_total 0 rows)))

unfoldable pub search_block : Vocabulary → ℕ → Base → Block → Written → CutAnswer
search_block v room base block w =
    elim block.matched [
      | true ↦ search_edges (log_float v.total) base block.chars w (edges_within room (walks_of v.words 0 block.chars))
      | false ↦ put_spans base block.chars w (searched block.chars [] (singly 0 block.chars))
    ]

-- `cut_all`: "every held word of a block in walk order"; it "writes as it walks, with 8 or 11 as it meets them and no 10"
abbrev pub spans_of : ℕ → List Edge → List Span
spans_of at [] = []
spans_of at (e ∷ es) = span at e.end ∷ spans_of at es

unfoldable pub put_walks : Base → List ℕ → ℕ → Written → List Walked → CutAnswer
put_walks base chars at w [] = answer (Ok tt) w
put_walks base chars at w (walk ∷ walks) =
    and_then (put_spans base chars w (spans_of at walk.edges))
    (λ v. cond walk.damaged (answer (Err Damaged) v) (put_walks base chars (at + 1) v walks))

unfoldable pub cut_all_block : Vocabulary → Base → Block → Written → CutAnswer
cut_all_block v base block w =
    elim block.matched [
      | true ↦ put_walks base block.chars 0 w (walks_of v.words 0 block.chars)
      | false ↦ put_spans base block.chars w (runs_of block.chars)
    ]

-- ---- the sentence

-- where the block after these characters starts
abbrev pub behind : Base → List ℕ → Base
behind base cs =
    record { chars = base.chars + length cs; bytes = base.bytes + byte_length cs; units = base.units + unit_length cs }

-- "block by block"
unfoldable pub cut_blocks : (Base → Block → Written → CutAnswer) → Base → List Block → Written → CutAnswer
cut_blocks one base [] w = answer (Ok tt) w
cut_blocks one base (block ∷ blocks) w =
    and_then (one base block w)
    (λ v. cut_blocks one (behind base block.chars) blocks v)

abbrev pub start : Base
start = record { chars = 0; bytes = 0; units = 0 }

-- what the tests of the book say: whether its areas have the sizes that are allowed, and whether its head is damaged
pub record Tested : Type 0 where
  pub sizes : Bool
  pub damage : Bool

abbrev pub tested_book : Book → Tested
tested_book b = record { sizes = sized b; damage = damaged_head b }

-- "Cuts: 1, 2, 3, 9, 8 for the head"; 9: "work area shorter than the sentence's characters + 1"; then the blocks
abbrev pub cut_chars : Tested → ℕ → (List ℕ → Written → CutAnswer) → Written → Option (List ℕ) → CutAnswer
cut_chars t work cutting w none = answer (Err Malformed) w
cut_chars t work cutting w (some cs) =
    cond (ltb work (length cs + 1)) (answer (Err WorkTooShort) w) (cond t.damage (answer (Err Damaged) w) (cutting cs w))

unfoldable pub cut_with : Tested → ℕ → List ℕ → (List ℕ → Written → CutAnswer) → List ℕ → CutAnswer
cut_with t work area cutting sentence =
    cond (t.sizes && eqb (length area % token_width) 0)
    (cond (leb (length sentence) longest_text) (cut_chars t work cutting (written 0 area) (chars_of sentence)) (answer (Err TooLong) (written 0 area)))
    (answer (Err BadAreas) (written 0 area))

-- the cuts of a sentence's bytes by what is seen of a book, with a work area and an edge area of the given lengths
abbrev pub cut_by : Tested → Vocabulary → ℕ → ℕ → List ℕ → List ℕ → CutAnswer
cut_by t v work room area sentence = cut_with t work area (λ cs. cut_blocks (cut_block v room) start (blocks_of cut_class cs)) sentence

abbrev pub cut_all_by : Tested → Vocabulary → ℕ → List ℕ → List ℕ → CutAnswer
cut_all_by t v work area sentence = cut_with t work area (λ cs. cut_blocks (cut_all_block v) start (blocks_of cut_all_class cs)) sentence

abbrev pub cut_for_search_by : Tested → Vocabulary → ℕ → ℕ → List ℕ → List ℕ → CutAnswer
cut_for_search_by t v work room area sentence = cut_with t work area (λ cs. cut_blocks (search_block v room) start (blocks_of cut_class cs)) sentence

-- ---- the three cuts, and the choice by mode: what the public contracts cite

unfoldable pub cut_of : Book → ℕ → ℕ → List ℕ → List ℕ → CutAnswer
cut_of b work room area sentence = cut_by (tested_book b) (vocabulary_of b) work room area sentence

unfoldable pub cut_all_of : Book → ℕ → List ℕ → List ℕ → CutAnswer
cut_all_of b work area sentence = cut_all_by (tested_book b) (vocabulary_of b) work area sentence

unfoldable pub cut_for_search_of : Book → ℕ → ℕ → List ℕ → List ℕ → CutAnswer
cut_for_search_of b work room area sentence = cut_for_search_by (tested_book b) (vocabulary_of b) work room area sentence

unfoldable pub tokenize_of : TokenizeMode → Book → ℕ → ℕ → List ℕ → List ℕ → CutAnswer
tokenize_of Default b work room area sentence = cut_of b work room area sentence
tokenize_of Search b work room area sentence = cut_for_search_of b work room area sentence

-- whether cutting begins: none of 1, 2, 3, 9 and the head's 8. Until then the work and edge areas are unchanged, "their content is free" after.
abbrev pub begins : Tested → ℕ → List ℕ → List ℕ → Bool
begins t work area sentence = is_done (cut_with t work area (λ cs. answer (Ok tt)) sentence).outcome
