-- `OffsetsCount`: what a cut writes are tokens of spans within its blocks, block by block, and each of these counts (`Spans`, `Places`). The blocks put
-- together are the sentence's characters, so each block stands behind those before it, which are the characters that its base counts. Refusals and damage
-- only end the writing.
-- Assumes nothing.
use Rattle.std.specs.Prelude.{Err}
use Prim.Native.Nat.{ℕ, ◌+◌, ◌%◌, ◌≤◌}
use mathlib.Core.Bool.{Bool, cond, ◌&&◌, beq}
use mathlib.Core.List.{List, [], ◌∷◌, ◌++◌, append_assoc}
use mathlib.Core.Option.{some}
use mathlib.Core.Path.{◌≡◌, refl, sym, ap, ◌∙◌}
use native.Mathlib.Omega.{arith}
use lib.Dec.{eqb, leb, ltb}
use lib.Ieee.{Float}
use lib.ListN.{length}
use Rattle.classes.specs.Blocks.{cut_class, cut_all_class}
use Rattle.utf8.specs.Text.{chars_of}
use Rattle.score.specs.Logarithm.{log_float}
use Rattle.book.specs.declared.Refusal.TheVariants.{Damaged}
use Rattle.book.specs.Returns.{Book, is_done, longest_text}
use Rattle.book.specs.Prefixes.{Walked}
use Rattle.cuts.specs.declared.TokenizeMode.TheVariants.{Default, Search}
use Rattle.cuts.specs.Blocks.{Block, onto, blocks_of}
use Rattle.cuts.specs.Edges.{Vocabulary, vocabulary_of, walks_of, Edges, edges, stopped, edges_within}
use Rattle.cuts.specs.Tokens.{Span, singly, runs_of, searched, Base, Written, written, put, has_place, token_of, token_width}
use Rattle.cuts.specs.Cuts.{CutAnswer, answer, and_then, put_spans, cut_edges, cut_block, search_edges, search_block, spans_of, put_walks, cut_all_block}
use Rattle.cuts.specs.Cuts.{behind, start, cut_blocks, Tested, tested_book, cut_with, cut_of, cut_all_of, cut_for_search_of, tokenize_of}
use Rattle.token_offsets.specs.Claims.{EachCounts, OffsetsCount}
use Rattle.token_offsets.proofs.Spans.{by_elim, by_cond, Each, WordsAhead, words_ahead, FoundAhead, found_ahead, Within}
use Rattle.token_offsets.proofs.Spans.{route_within, outside_within, runs_within, spans_within, searched_within}
use Rattle.token_offsets.proofs.Places.{base_of, base_none, base_behind, Told, put_told, span_counts}

-- ---- the blocks of a sentence

abbrev chars_in : List Block → List ℕ
chars_in [] = []
chars_in (b ∷ bs) = b.chars ++ chars_in bs

onto_chars : (m : Bool) (c : ℕ) (bs : List Block) → chars_in (onto m c bs) ≡ c ∷ chars_in bs
onto_chars m c [] = refl
onto_chars m c (b ∷ bs) = by_elim (λ (l : List Block). chars_in l ≡ c ∷ chars_in (b ∷ bs)) (beq m b.matched) (λ same. refl) (λ other. refl)

blocks_chars : (class : ℕ → Bool) (cs : List ℕ) → chars_in (blocks_of class cs) ≡ cs
unfolding blocks_of
blocks_chars class [] = refl
blocks_chars class (c ∷ cs) = onto_chars (class c) c (blocks_of class cs) ∙ ap (λ (l : List ℕ). c ∷ l) (blocks_chars class cs)

module _ (cs : List ℕ) where
  told_then : (a : CutAnswer) (next : Written → CutAnswer) → EachCounts cs a → ((w : Written) → Told cs w → EachCounts cs (next w))
      → EachCounts cs (and_then a next)
  told_then a next told after = by_elim (EachCounts cs) (is_done a.outcome) (λ done. after a.written told) (λ stopped. told)

  -- ---- a block that stands behind some characters, which its base counts

  module _ (before chars rest : List ℕ) (all : cs ≡ before ++ (chars ++ rest)) where
    told_spans : (ss : List Span) → Each (Within (length chars)) ss → (w : Written) → Told cs w → EachCounts cs (put_spans (base_of before) chars w ss)
    unfolding put_spans
    told_spans [] within w told = told
    told_spans (s ∷ ss) within w told =
        by_elim (EachCounts cs) (has_place w)
        (λ place. told_spans ss within.1 (put w (token_of (base_of before) chars s))
        (put_told cs w (token_of (base_of before) chars s) place told (span_counts cs before chars rest all s within.0)))
        (λ full. told)

    told_cut_edges : (log_total : Float) (w : Written) (found : Edges) → FoundAhead (length chars) 0 found → Told cs w
        → EachCounts cs (cut_edges log_total (base_of before) chars w found)
    told_cut_edges log_total w (edges rows) ahead told = told_spans _ (route_within log_total chars rows ahead) w told
    told_cut_edges log_total w (stopped o) ahead told = told

    told_search_edges : (log_total : Float) (w : Written) (found : Edges) → FoundAhead (length chars) 0 found → Told cs w
        → EachCounts cs (search_edges log_total (base_of before) chars w found)
    told_search_edges log_total w (edges rows) ahead told =
        told_spans _ (searched_within chars (length chars) rows _ (route_within log_total chars rows ahead)) w told
    told_search_edges log_total w (stopped o) ahead told = told

    told_walks : (words : ℕ → List ℕ → Walked) → WordsAhead words → (at : ℕ) (left : List ℕ) → at + length left ≤ length chars
        → (w : Written) → Told cs w → EachCounts cs (put_walks (base_of before) chars at w (walks_of words at left))
    unfolding put_walks walks_of
    told_walks words ahead at [] inside w told = told
    told_walks words ahead at (c ∷ left) inside w told =
        let walk : Walked = words at (c ∷ left) in
        told_then (put_spans (base_of before) chars w (spans_of at walk.edges))
        (λ (u : Written). cond walk.damaged (answer (Err Damaged) u) (put_walks (base_of before) chars (at + 1) u (walks_of words (at + 1) left)))
        (told_spans (spans_of at walk.edges) (spans_within (length chars) at walk.edges (ahead (length chars) at (c ∷ left) inside)) w told)
        (λ u so_far. by_cond (EachCounts cs) walk.damaged (λ damaged. so_far) (λ sound. told_walks words ahead (at + 1) left (omega arith) u so_far))

  -- what a cut writes of such a block
  abbrev Keeps : (Base → Block → Written → CutAnswer) → Type 0
  Keeps one = (before rest : List ℕ) (b : Block) (w : Written) → cs ≡ before ++ (b.chars ++ rest) → Told cs w → EachCounts cs (one (base_of before) b w)

  module _ (v : Vocabulary) (ahead : WordsAhead v.words) where
    abbrev found : ℕ → List ℕ → Edges
    found room chars = edges_within room (walks_of v.words 0 chars)

    ahead_in : (room : ℕ) (chars : List ℕ) → FoundAhead (length chars) 0 (found room chars)
    ahead_in room chars = found_ahead v.words ahead (length chars) 0 chars room (omega arith)

    told_cut : (room : ℕ) → Keeps (cut_block v room)
    unfolding cut_block
    told_cut room before rest b w all told =
        by_elim (EachCounts cs) b.matched
        (λ _. told_cut_edges before b.chars rest all (log_float v.total) w (found room b.chars) (ahead_in room b.chars) told)
        (λ _. told_spans before b.chars rest all (singly 0 b.chars) (outside_within b.chars) w told)

    told_search : (room : ℕ) → Keeps (search_block v room)
    unfolding search_block
    told_search room before rest b w all told =
        by_elim (EachCounts cs) b.matched
        (λ _. told_search_edges before b.chars rest all (log_float v.total) w (found room b.chars) (ahead_in room b.chars) told)
        (λ _. told_spans before b.chars rest all (searched b.chars [] (singly 0 b.chars))
        (searched_within b.chars (length b.chars) [] (singly 0 b.chars) (outside_within b.chars)) w told)

    told_all : Keeps (cut_all_block v)
    unfolding cut_all_block
    told_all before rest b w all told =
        by_elim (EachCounts cs) b.matched
        (λ _. told_walks before b.chars rest all v.words ahead 0 b.chars (omega arith) w told)
        (λ _. told_spans before b.chars rest all (runs_of b.chars) (runs_within b.chars) w told)

  -- ---- the sentence

  told_blocks : (one : Base → Block → Written → CutAnswer) → Keeps one → (bs : List Block) (before : List ℕ) → cs ≡ before ++ chars_in bs
      → (w : Written) → Told cs w → EachCounts cs (cut_blocks one (base_of before) bs w)
  unfolding cut_blocks
  told_blocks one keeps [] before all w told = told
  told_blocks one keeps (b ∷ bs) before all w told =
      told_then (one (base_of before) b w) (cut_blocks one (behind (base_of before) b.chars) bs) (keeps before (chars_in bs) b w all told)
      (rw (base_behind before b.chars)
      (told_blocks one keeps bs (before ++ b.chars) (all ∙ sym (append_assoc before b.chars (chars_in bs)))))

  told_sentence : (one : Base → Block → Written → CutAnswer) → Keeps one
      → (class : ℕ → Bool) (w : Written) → Told cs w → EachCounts cs (cut_blocks one start (blocks_of class cs) w)
  told_sentence one keeps class = rw base_none (told_blocks one keeps (blocks_of class cs) [] (sym (blocks_chars class cs)))

  -- the tests before write nothing
  told_tests : (t : Tested) (work : ℕ) (area sentence : List ℕ) (cutting : List ℕ → Written → CutAnswer) → chars_of sentence ≡ some cs
      → ((w : Written) → Told cs w → EachCounts cs (cutting cs w)) → EachCounts cs (cut_with t work area cutting sentence)
  unfolding cut_with
  told_tests t work area sentence cutting e cuts =
      let nothing : Told cs (written 0 area) = λ k h. absurd (omega arith) in
      rw e
      (by_cond (EachCounts cs) (t.sizes && eqb (length area % token_width) 0)
      (λ _. by_cond (EachCounts cs) (leb (length sentence) longest_text)
      (λ _. by_cond (EachCounts cs) (ltb work (length cs + 1)) (λ _. nothing)
      (λ _. by_cond (EachCounts cs) t.damage (λ _. nothing) (λ _. cuts (written 0 area) nothing)))
      (λ _. nothing))
      (λ _. nothing))

-- ---- the claim

module _ (b : Book) (work room : ℕ) (area sentence cs : List ℕ) (e : chars_of sentence ≡ some cs) where
  cut_counts : EachCounts cs (cut_of b work room area sentence)
  unfolding cut_of
  cut_counts = told_tests cs (tested_book b) work area sentence _ e (told_sentence cs _ (told_cut cs (vocabulary_of b) (words_ahead b) room) cut_class)

  all_counts : EachCounts cs (cut_all_of b work area sentence)
  unfolding cut_all_of
  all_counts = told_tests cs (tested_book b) work area sentence _ e (told_sentence cs _ (told_all cs (vocabulary_of b) (words_ahead b)) cut_all_class)

  search_counts : EachCounts cs (cut_for_search_of b work room area sentence)
  unfolding cut_for_search_of
  search_counts = told_tests cs (tested_book b) work area sentence _ e (told_sentence cs _ (told_search cs (vocabulary_of b) (words_ahead b) room) cut_class)

pub offsets_count : OffsetsCount
unfolding tokenize_of
offsets_count b work room area sentence cs e =
    let of_cut = cut_counts b work room area sentence cs e in
    let of_search = search_counts b work room area sentence cs e in
    (of_cut, all_counts b work room area sentence cs e, of_search, λ mode. elim mode as (λ m. EachCounts cs (tokenize_of m b work room area sentence)) [ Default ↦ of_cut | Search ↦ of_search ])
