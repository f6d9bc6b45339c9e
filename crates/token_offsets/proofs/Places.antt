-- Tokens in the token area, each of which counts. The six numbers of a new token stand at the first free place and leave those before it as they were. And
-- the token of a span within a block counts: what stands before a position of the block is what stands before the block, and then the block's characters up
-- to there, and the bytes and the code units of two parts of a text add up.
-- Assumes nothing.
use Rattle.std.specs.Prelude.{Ok}
use Prim.Native.Nat.{ℕ, zero, suc, ◌+◌, ◌*◌, ◌/◌, ◌≤◌, ◌<◌}
use mathlib.Core.Bool.{true}
use mathlib.Core.List.{List, [], ◌∷◌, ◌++◌}
use mathlib.Core.Path.{◌≡◌, refl, sym, ap, ◌∙◌}
use native.Mathlib.Omega.{arith}
use borrow.Author.Tests.{ltb-true}
use lib.ListN.{length, get_or, set, take, length-set, length-append}
use lib.Seq.{sets, get_or-set_same, get_or-set_other, take-append-le, take-append-add}
use Rattle.utf8.specs.Encoding.{encode_text, byte_length}
use Rattle.utf8.specs.Utf16.{encode_text_utf16, unit_length}
use Rattle.utf8.proofs.Positions.{byte_length_append}
use Rattle.utf8.proofs.Utf16.{units_of_encoding, unit_length_append}
use Rattle.score.proofs.Tests.{by_leb}
use Rattle.cuts.specs.declared.Token.{Token}
use Rattle.cuts.specs.Tokens.{Span, Base, token_of, numbers_of, token_width, Written, has_place, put}
use Rattle.cuts.specs.Cuts.{answer, behind, start}
use Rattle.token_offsets.specs.Claims.{token_at, Counts, EachCounts}
use Rattle.token_offsets.proofs.Spans.{Within}

-- ---- several numbers written in a row

-- those before the first place are as they were
read_before : (vs area : List ℕ) (at i : ℕ) → i < at → get_or (sets area at vs) i 0 ≡ get_or area i 0
read_before [] area at i h = refl
read_before (v ∷ vs) area at i h = read_before vs (set area at v) (suc at) i (omega arith) ∙ get_or-set_other area at i v 0 (λ e. omega arith)

-- those from there on are the new ones
read_written : (vs area : List ℕ) (at i : ℕ) → i < length vs → at + length vs ≤ length area → get_or (sets area at vs) (at + i) 0 ≡ get_or vs i 0
read_written [] area at i h long = absurd (omega arith)
read_written (v ∷ vs) area at zero h long =
    let here : at + 0 ≡ at = omega arith in
    rw here (read_before vs (set area at v) (suc at) at (omega arith) ∙ get_or-set_same area at v 0 (omega arith))
read_written (v ∷ vs) area at (suc i) h long =
    let further : at + suc i ≡ suc at + i = omega arith in
    rw further (read_written vs (set area at v) (suc at) i (omega arith) (omega (arith, length-set area at v)))

-- ---- a token by its six numbers

abbrev token_by : (ℕ → ℕ) → Token
token_by number = record {
  chars = record { 0 = number 0; 1 = number 1 };
  bytes = record { 0 = number 2; 1 = number 3 };
  utf16 = record { 0 = number 4; 1 = number 5 };
}

same_token : (f g : ℕ → ℕ) → ((i : ℕ) → i < token_width → f i ≡ g i) → token_by f ≡ token_by g
same_token f g same = rw (same 0 (omega arith), same 1 (omega arith), same 2 (omega arith), same 3 (omega arith), same 4 (omega arith), same 5 (omega arith))

module _ (area : List ℕ) (count : ℕ) (t : Token) where
  abbrev after : List ℕ
  after = sets area (count * token_width) (numbers_of t)

  earlier_token : (k : ℕ) → k < count → token_at after k ≡ token_at area k
  earlier_token k h = same_token (λ i. get_or after (k * token_width + i) 0) (λ i. get_or area (k * token_width + i) 0)
      (λ i inside. read_before (numbers_of t) area (count * token_width) (k * token_width + i) (omega arith))

  new_token : count < length area / token_width → token_at after count ≡ t
  new_token free = same_token (λ i. get_or after (count * token_width + i) 0) (λ i. get_or (numbers_of t) i 0)
      (λ i inside. read_written (numbers_of t) area (count * token_width) i inside (omega arith))

-- ---- a base by the characters that it counts

abbrev pub base_of : List ℕ → Base
base_of before = record { chars = length before; bytes = byte_length before; units = unit_length before }

pub base_none : start ≡ base_of []
unfolding byte_length unit_length
base_none = refl

pub base_behind : (before block : List ℕ) → behind (base_of before) block ≡ base_of (before ++ block)
base_behind before block = rw (length-append before block, byte_length_append before block, unit_length_append before block)

-- ---- tokens of a sentence with these characters

module _ (cs : List ℕ) where
  -- each token that is written so far counts
  abbrev pub Told : Written → Type 0
  Told w = EachCounts cs (answer (Ok tt) w)

  pub put_told : (w : Written) (t : Token) → has_place w ≡ true → Told w → Counts cs t → Told (put w t)
  put_told w t place told counts k h =
      by_leb (suc k) w.count (λ _. Counts cs (token_at (put w t).area k))
      (λ earlier. rw (earlier_token w.area w.count t k earlier) (told k (omega arith)))
      (λ last.
      let new : k ≡ w.count = omega arith in
      rw (new, new_token w.area w.count t (ltb-true w.count (length w.area / token_width) place)) counts)

  -- of a block of it
  module _ (before block rest : List ℕ) (all : cs ≡ before ++ (block ++ rest)) where
    -- up to a position of the block
    up_to : (k : ℕ) → k ≤ length block → take (length before + k) cs ≡ before ++ take k block
    up_to k inside = rw (all, take-append-add before (block ++ rest) k, take-append-le k block rest inside)

    bytes_to : (k : ℕ) → k ≤ length block → byte_length before + byte_length (take k block) ≡ length (encode_text (take (length before + k) cs))
    unfolding byte_length
    bytes_to k inside = sym (byte_length_append before (take k block)) ∙ ap byte_length (sym (up_to k inside))

    units_to : (k : ℕ) → k ≤ length block → unit_length before + unit_length (take k block) ≡ length (encode_text_utf16 (take (length before + k) cs))
    units_to k inside =
        sym (unit_length_append before (take k block)) ∙ ap unit_length (sym (up_to k inside)) ∙ units_of_encoding (take (length before + k) cs)

    block_inside : length before + length block ≤ length cs
    block_inside = rw all (omega (arith, length-append before (block ++ rest), length-append block rest))

    pub span_counts : (s : Span) → Within (length block) s → Counts cs (token_of (base_of before) block s)
    unfolding token_of
    span_counts s within = record {
      some_characters = omega (arith, within.0);
      inside = omega (arith, within.1, block_inside);
      bytes_before = bytes_to s.start (omega (arith, within));
      bytes_to_end = bytes_to s.end within.1;
      units_before = units_to s.start (omega (arith, within));
      units_to_end = units_to s.end within.1;
    }
