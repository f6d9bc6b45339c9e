-- What a token's six numbers say of the whole sentence: document 01, "Character offsets count scalar values, byte offsets count UTF-8 bytes", and document
-- 02, note 6. Encode the characters before a token in UTF-8 and in UTF-16: there are as many bytes and as many code units as its start says; and the
-- same of those up to its end. Of each token that is written by each cut of every sentence, in every book, built or not, by refused cuts too.
-- Proof: `proofs/Offsets.antt`.
-- Assumes nothing.
use Rattle.std.specs.Prelude.{ℕ, ◌+◌, ◌*◌, ◌≤◌, ◌<◌, List, ◌≡◌, length, get_or, take}
use Rattle.std.proofs.Math.Option.{some}
use Rattle.utf8.specs.Text.{chars_of}
use Rattle.utf8.specs.Encoding.{encode_text}
use Rattle.utf8.specs.Utf16.{encode_text_utf16}
use Rattle.book.specs.Returns.{Book}
use Rattle.cuts.specs.declared.Token.{Token}
use Rattle.cuts.specs.declared.TokenizeMode.{TokenizeMode}
use Rattle.cuts.specs.Tokens.{token_width}
use Rattle.cuts.specs.Cuts.{CutAnswer, cut_of, cut_all_of, cut_for_search_of, tokenize_of}

-- the token at a place of the token area
abbrev pub token_at : List ℕ → ℕ → Token
token_at area k =
    let number : ℕ → ℕ = λ i. get_or area (k * token_width + i) 0 in
    record {
      chars = record { 0 = number 0; 1 = number 1 };
      bytes = record { 0 = number 2; 1 = number 3 };
      utf16 = record { 0 = number 4; 1 = number 5 };
    }

-- a token of a sentence with these characters: it has one or more of them, and its offsets count what stands before it, and up to its end
pub record Counts (cs : List ℕ) (t : Token) : Type 0 where
  pub some_characters : t.chars.0 < t.chars.1
  pub inside : t.chars.1 ≤ length cs
  pub bytes_before : t.bytes.0 ≡ length (encode_text (take t.chars.0 cs))
  pub bytes_to_end : t.bytes.1 ≡ length (encode_text (take t.chars.1 cs))
  pub units_before : t.utf16.0 ≡ length (encode_text_utf16 (take t.chars.0 cs))
  pub units_to_end : t.utf16.1 ≡ length (encode_text_utf16 (take t.chars.1 cs))

-- of each token that is written
abbrev pub EachCounts : List ℕ → CutAnswer → Type 0
EachCounts cs a = (k : ℕ) → k < a.written.count → Counts cs (token_at a.written.area k)

abbrev pub OffsetsCount : Type 0
OffsetsCount =
    (b : Book) (work room : ℕ) (area sentence cs : List ℕ) → chars_of sentence ≡ some cs
    → EachCounts cs (cut_of b work room area sentence)
    × EachCounts cs (cut_all_of b work area sentence)
    × EachCounts cs (cut_for_search_of b work room area sentence)
    × ((mode : TokenizeMode) → EachCounts cs (tokenize_of mode b work room area sentence))
