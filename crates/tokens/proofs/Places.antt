-- One token in the token area: the three pairs that `put_token` writes, and what `emit_span` answers where there is a place and where there is none.
-- Assumes nothing.
use Rattle.std.specs.Prelude.{Ok, Err}
use Prim.Native.Nat.{ℕ, suc, ◌+◌, ◌*◌, ◌/◌, ◌%◌, ◌^◌, ◌≤◌, ◌<◌}
use mathlib.Core.List.{List, [], ◌∷◌}
use mathlib.Core.Path.{◌≡◌, sym, ap, ◌∙◌}
use native.Mathlib.Omega.{arith}
use borrow.Author.Tests.{lt-ltb, le-ltb}
use lib.ListN.{length, get_or, set}
use lib.Seq.{sets}
use Rattle.book.specs.declared.Refusal.TheVariants.{TokensFull}
use Rattle.cuts.specs.declared.Token.{Token}
use Rattle.cuts.specs.Slices.{Placed}
use Rattle.cuts.specs.Tokens.{span, Base, token_of, numbers_of, token_width, written}
use Rattle.cuts.specs.Cuts.{answer, put_spans}
use Rattle.tokens.specs.Places.{token_from}
use Rattle.cuts.proofs.Offsets.{bytes_at, units_at}
use Rattle.cuts.proofs.Sequence.{put_one, put_refused}

-- ---- `put_token`

-- two writes, at a place and at the one after it
pub two_writes : (area : List ℕ) (at a b : ℕ) → set (set area at a) (at + 1) b ≡ sets area at (a ∷ b ∷ [])
two_writes area at a b = let one : at + 1 ≡ suc at = omega arith in rw one

-- three pairs, one behind the other
three_pairs : (area : List ℕ) (at a b c d e f : ℕ)
    → sets (sets (sets area at (a ∷ b ∷ [])) (at + 2) (c ∷ d ∷ [])) (at + 4) (e ∷ f ∷ []) ≡ sets area at (a ∷ b ∷ c ∷ d ∷ e ∷ f ∷ [])
three_pairs area at a b c d e f =
    let two : at + 2 ≡ suc (suc at) = omega arith in
    let four : at + 4 ≡ suc (suc (suc (suc at))) = omega arith in
    rw (two, four)

module _ (area : List ℕ) (at base x y : ℕ) (offsets : List ℕ) {b c u v : ℕ} {one two three : List ℕ} where
  pub token_written : one ≡ sets area at ((base + x) ∷ (base + y) ∷ [])
      → b ≡ get_or offsets x 0 % 2 ^ 32 → c ≡ get_or offsets y 0 % 2 ^ 32 → two ≡ sets one (at + 2) (b ∷ c ∷ [])
      → u ≡ get_or offsets x 0 / 2 ^ 32 → v ≡ get_or offsets y 0 / 2 ^ 32 → three ≡ sets two (at + 4) (u ∷ v ∷ [])
      → three ≡ sets area at (numbers_of (token_from base x y offsets))
  unfolding token_from
  token_written is_one is_b is_c is_two is_u is_v is_three =
      is_three
      ∙ ap (λ (l : List ℕ). sets l (at + 4) (u ∷ v ∷ [])) is_two
      ∙ ap (λ (l : List ℕ). sets (sets l (at + 2) (b ∷ c ∷ [])) (at + 4) (u ∷ v ∷ [])) is_one
      ∙ three_pairs area at (base + x) (base + y) b c u v
      ∙ rw (is_b, is_c, is_u, is_v)

-- ---- `emit_span`

module _ (place : Base) (base x y count : ℕ) (chars offsets area : List ℕ) where
  -- it is the token of the span
  token_of_lem : Placed place base chars offsets → x ≤ y → y ≤ length chars → token_from base x y offsets ≡ token_of place chars (span x y)
  unfolding token_of token_from
  token_of_lem known forward inside =
      let before : x ≤ length chars = omega arith in
      rw (bytes_at known x before, bytes_at known y inside, units_at known x before, units_at known y inside, known.after)

  pub emitted : (after : List ℕ)
      → count < length area / token_width
      → after ≡ sets area (count * token_width) (numbers_of (token_from base x y offsets))
      → x ≤ y
      → Placed place base chars offsets
      → y ≤ length chars
      → answer (Ok tt) (written (count + 1) after) ≡ put_spans place chars (written count area) (span x y ∷ [])
  emitted after free e forward known inside =
      ap (λ (l : List ℕ). answer (Ok tt) (written (count + 1) l)) e
      ∙ ap (λ (t : Token). answer (Ok tt) (written (count + 1) (sets area (count * token_width) (numbers_of t)))) (token_of_lem known forward inside)
      ∙ sym (put_one place chars (written count area) (span x y) (lt-ltb count (length area / token_width) free))

  pub no_place : length area / token_width ≤ count
      → answer (Err TokensFull) (written count area) ≡ put_spans place chars (written count area) (span x y ∷ [])
  no_place full = sym (put_refused place chars (written count area) (span x y) (le-ltb count (length area / token_width) full))
