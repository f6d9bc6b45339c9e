-- Tokens: document 01, "Tokens: `cut_route`, `cut_all`, `cut_for_search`".
-- A span is a stretch of a block's characters, counted from the block's start; a token is a span with its offsets in the sentence.
-- Assumes nothing.
use Rattle.std.specs.Prelude.{ℕ, zero, suc, ◌+◌, ◌-◌, ◌*◌, ◌/◌, Bool, true, false, cond, ◌&&◌, ◌||◌, List, [], ◌∷◌, ◌++◌, eqb, leb, ltb, length, get_or, take, drop}
use Rattle.std.specs.Float.{nan}
use Rattle.std.proofs.lemmas.List.Edits.{sets}
use Rattle.classes.specs.Blocks.{ascii_letter_or_digit}
use Rattle.classes.specs.Tokens.{joins, connector, ascii_letter}
use Rattle.book.specs.Prefixes.{Edge}
use Rattle.utf8.specs.Encoding.{byte_length}
use Rattle.utf8.specs.Utf16.{unit_length}
use Rattle.route.specs.Route.{Best}
use Rattle.cuts.specs.declared.Token.{Token}

pub record Span : Type 0 where
  pub start : ℕ
  pub end : ℕ

abbrev pub span : ℕ → ℕ → Span
span a b = record { start = a; end = b }

-- ---- the route's steps

-- from a position to the block's end, of n characters; each step goes on by one or more
unfoldable pub steps_from : ℕ → List Best → ℕ → ℕ → List Span
steps_from zero route n at = []
steps_from (suc fuel) route n at =
    let end : ℕ = (get_or route at (record { score = nan; end = 0 })).end in
    elim (ltb at n) [ true ↦ span at end ∷ steps_from fuel route n end | false ↦ [] ]

-- a span, and whether it is a run that joins with one before it
pub record Piece : Type 0 where
  pub place : Span
  pub joining : Bool

abbrev pub before_pieces : Span → Bool → List Piece → List Piece
before_pieces s joining [] = record { place = s; joining = joining } ∷ []
before_pieces s joining (p ∷ ps) =
    cond (joining && p.joining) (record { place = span s.start p.place.end; joining = true } ∷ ps) (record { place = s; joining = joining } ∷ p ∷ ps)

-- neighbouring spans that join are one
unfoldable pub pieces_of : (Span → Bool) → List Span → List Piece
pieces_of joining [] = []
pieces_of joining (s ∷ ss) = before_pieces s (joining s) (pieces_of joining ss)

abbrev pub places_of : List Piece → List Span
places_of [] = []
places_of (p ∷ ps) = p.place ∷ places_of ps

unfoldable pub joined : (Span → Bool) → List Span → List Span
joined joining ss = places_of (pieces_of joining ss)

-- "Route steps of one ASCII letter or digit join; others stand singly."
abbrev pub lone_letter : List ℕ → Span → Bool
lone_letter chars s = eqb s.end (s.start + 1) && ascii_letter_or_digit (get_or chars s.start 0)

unfoldable pub cut_route : List ℕ → List Best → List Span
cut_route chars route = joined (lone_letter chars) (steps_from (length chars) route (length chars) 0)

-- ---- outside the class

-- "Outside the class each character is a token, CR LF one."
unfoldable pub singly : ℕ → List ℕ → List Span
singly at [] = []
singly at (c ∷ []) = span at (at + 1) ∷ []
singly at (c ∷ d ∷ cs) =
    elim (eqb c 0x0D && eqb d 0x0A) [ true ↦ span at (at + 2) ∷ singly (at + 2) cs | false ↦ span at (at + 1) ∷ singly (at + 1) (d ∷ cs) ]

-- `cut_all`: "elsewhere maximal runs of ASCII letters, digits, + # LF, all else singly"
abbrev pub each : ℕ → List ℕ → List Span
each at [] = []
each at (c ∷ cs) = span at (at + 1) ∷ each (at + 1) cs

unfoldable pub runs_of : List ℕ → List Span
runs_of chars = joined (λ s. joins (get_or chars s.start 0)) (each 0 chars)

-- ---- search

-- whether a test holds of one of them, and those of which it holds
abbrev pub any_of : {A : Type 0} → (A → Bool) → List A → Bool
any_of test [] = false
any_of test (x ∷ xs) = test x || any_of test xs

abbrev pub those : {A : Type 0} → (A → Bool) → List A → List A
those test [] = []
those test (x ∷ xs) = cond (test x) (x ∷ those test xs) (those test xs)

-- the pieces of a span before, between and after its connectors: one that starts at a position, up to which this far is read
unfoldable pub parts : ℕ → ℕ → List ℕ → List Span
parts from at [] = span from at ∷ []
parts from at (c ∷ cs) = elim (connector c) [ true ↦ span from at ∷ parts (at + 1) (at + 1) cs | false ↦ parts from (at + 1) cs ]

abbrev pub chars_between : List ℕ → Span → List ℕ
chars_between chars s = take (s.end - s.start) (drop s.start chars)

-- "of at least 2 bytes with an ASCII letter"
abbrev pub searchable : List ℕ → Bool
searchable cs = leb 2 (byte_length cs) && any_of ascii_letter cs

-- "if it has . _ or -, its parts between them"
unfoldable pub parts_of : List ℕ → Span → List Span
parts_of chars s =
    cond (any_of connector (chars_between chars s)) (those (λ p. searchable (chars_between chars p)) (parts s.start s.start (chars_between chars s))) []

-- whether a held word starts at a position and ends at another: `word_at` of sparse_dag.rs
abbrev pub held_between : List (List Edge) → Span → Bool
held_between rows s = any_of (λ (e : Edge). eqb e.end s.end) (get_or rows s.start [])

-- the stretches of so many characters that start at each of so many positions
abbrev pub stretches : ℕ → ℕ → ℕ → List Span
stretches size from zero = []
stretches size from (suc count) = span from (from + size) ∷ stretches size (from + 1) count

-- "if over 2 characters, its held 2-character words; if over 3, its held 3-character words"
unfoldable pub words_of_size : ℕ → List (List Edge) → Span → List Span
words_of_size size rows s =
    cond (ltb size (s.end - s.start)) (those (held_between rows) (stretches size s.start (s.end - s.start + 1 - size))) []

-- "Search, per token": the parts, the words, "then itself"
unfoldable pub searched : List ℕ → List (List Edge) → List Span → List Span
searched chars rows [] = []
searched chars rows (s ∷ ss) = parts_of chars s ++ (words_of_size 2 rows s ++ (words_of_size 3 rows s ++ (s ∷ searched chars rows ss)))

-- ---- tokens

-- where a block starts in the sentence: how many characters, bytes and code units of UTF-16 stand before it
pub record Base : Type 0 where
  pub chars : ℕ
  pub bytes : ℕ
  pub units : ℕ

-- "Character offsets count scalar values, byte offsets count UTF-8 bytes, and a token has a start and end in each"; document 02, note 6: "each token
-- carries a start and end in this third unit beside the other two". Of a span in a block that starts at the given place
unfoldable pub token_of : Base → List ℕ → Span → Token
token_of base chars s = record {
  chars = record { 0 = base.chars + s.start; 1 = base.chars + s.end };
  bytes = record { 0 = base.bytes + byte_length (take s.start chars); 1 = base.bytes + byte_length (take s.end chars) };
  utf16 = record { 0 = base.units + unit_length (take s.start chars); 1 = base.units + unit_length (take s.end chars) };
}

-- the numbers that a token takes in the token area, and how many: characters, bytes, UTF-16
abbrev pub numbers_of : Token → List ℕ
numbers_of t = t.chars.0 ∷ t.chars.1 ∷ t.bytes.0 ∷ t.bytes.1 ∷ t.utf16.0 ∷ t.utf16.1 ∷ []

abbrev pub token_width : ℕ
token_width = 6

-- the tokens written so far, and the token area
pub record Written : Type 0 where
  pub count : ℕ
  pub area : List ℕ

abbrev pub written : ℕ → List ℕ → Written
written count area = record { count = count; area = area }

abbrev pub has_place : Written → Bool
has_place w = ltb w.count (length w.area / token_width)

abbrev pub put : Written → Token → Written
put w t = record { count = w.count + 1; area = sets w.area (w.count * token_width) (numbers_of t) }
