-- The bytes of a line, two digits at a time: what the loop of `decode` has done and what is left of the line make the whole. And a line's bytes by its
-- length, on which `read_frame` goes. Assumes nothing.
use Prim.Native.Nat.{ℕ, zero, suc, ◌+◌, ◌-◌, ◌*◌, ◌≤◌, ◌<◌}
use mathlib.Core.List.{List, [], ◌∷◌, ◌++◌, append_assoc, append-nil}
use mathlib.Core.Path.{◌≡◌, refl, sym, ap, ◌∙◌}
use native.Mathlib.Decide.{dec_lt}
use native.Mathlib.Numerals.{add-one}
use native.Mathlib.Omega.{arith}
use borrow.Author.Tests.{le-leb, lt-leb}
use lib.ListN.{length, get_or, set, take, drop, drop_of_length-le}
use lib.Seq.{drop-cons, take-suc-set, length-take-le}
use Rattle.std.specs.Prelude.{Option, Some, None}
use Rattle.frames.specs.declared.Kind.{Kind}
use Rattle.frames.specs.Frames.{byte_of, with_byte, bytes_of, kind_of, longest, frame, of_kind, framed, frame_of, decoded}

-- ---- the loop of `decode`

-- bytes before those of what is left, if that has any
abbrev pub onto : List ℕ → Option (List ℕ) → Option (List ℕ)
onto done None = None
onto done (Some rest) = Some (done ++ rest)

onto_byte : (done : List ℕ) (b : ℕ) (rest : Option (List ℕ)) → onto done (with_byte (Some b) rest) ≡ onto (done ++ (b ∷ [])) rest
onto_byte done b None = refl
onto_byte done b (Some rest) = rw append_assoc

-- the line from the digits of its i-th byte on
pub record Decoding (line bytes : List ℕ) (i : ℕ) : Type 0 where
  pub whole : bytes_of line ≡ onto (take i bytes) (bytes_of (drop (2 * i) line))

module _ (line : List ℕ) (i : ℕ) (inside : 2 * i + 1 < length line) (b : Option ℕ)
    (byte : b ≡ byte_of (get_or line (2 * i) 0) (get_or line (2 * i + 1) 0)) where
  digits : bytes_of (drop (2 * i) line) ≡ with_byte b (bytes_of (drop (2 * (i + 1)) line))
  unfolding bytes_of
  digits =
      let next : 2 * i + 1 ≡ suc (2 * i) = omega arith in
      let after : 2 * (i + 1) ≡ suc (suc (2 * i)) = omega arith in
      let first : 2 * i < length line = omega arith in
      let second : suc (2 * i) < length line = omega arith in
      rw (drop-cons line (2 * i) 0 first, drop-cons line (suc (2 * i)) 0 second, byte, next, after)

module _ (line bytes : List ℕ) (i : ℕ) (so_far : Decoding line bytes i) (inside : 2 * i + 1 < length line) where
  pub one_byte : (b : ℕ) → Some b ≡ byte_of (get_or line (2 * i) 0) (get_or line (2 * i + 1) 0) → i < length bytes → Decoding line (set bytes i b) (i + 1)
  one_byte b byte room = record {
    whole =
        so_far.whole ∙ ap (onto (take i bytes)) (digits line i inside (Some b) byte)
        ∙ onto_byte (take i bytes) b (bytes_of (drop (2 * (i + 1)) line))
        ∙ ap (λ (done : List ℕ). onto done (bytes_of (drop (2 * (i + 1)) line))) (sym (rw add-one (take-suc-set bytes i b room)));
  }

  pub no_byte : None ≡ byte_of (get_or line (2 * i) 0) (get_or line (2 * i + 1) 0) → None ≡ bytes_of line
  no_byte byte = sym (so_far.whole ∙ ap (onto (take i bytes)) (digits line i inside None byte))

pub all_bytes : (line bytes : List ℕ) (i : ℕ) → Decoding line bytes i → length line ≤ 2 * i → Some (take i bytes) ≡ bytes_of line
unfolding bytes_of
all_bytes line bytes i so_far end =
    sym (so_far.whole ∙ ap (λ (rest : List ℕ). onto (take i bytes) (bytes_of rest)) (drop_of_length-le line end) ∙ ap Some (append-nil (take i bytes)))

-- ---- a line's bytes by its length

-- a byte more
longer : (b : Option ℕ) (n : ℕ) (bytes : List ℕ) (rest : Option (List ℕ)) → with_byte b rest ≡ Some bytes
    → ((bs : List ℕ) → rest ≡ Some bs → n ≡ 2 * length bs) → n + 2 ≡ 2 * length bytes
longer None n bytes rest e known = cc
longer (Some b) n bytes None e known = cc
longer (Some b) n bytes (Some bs) e known = let same : b ∷ bs ≡ bytes = cc in rw (← same) (omega (arith, known bs refl))

pub some_length : (line bytes : List ℕ) → bytes_of line ≡ Some bytes → length line ≡ 2 * length bytes
unfolding bytes_of
some_length [] bytes e = let same : [] ≡ bytes = cc in rw (← same)
some_length (x ∷ []) bytes e = cc
some_length (x ∷ y ∷ line) bytes e = omega (arith, longer (byte_of x y) (length line) bytes (bytes_of line) e (some_length line))

-- what is no frame by its length: there are no bytes, or none after a kind, or more than the longest frame has
framed_by : (line : List ℕ) → ((n : ℕ) → length line ≡ 2 * n → 1 ≤ n → n ≤ longest + 1 → ⊥) → (bytes : Option (List ℕ)) → bytes_of line ≡ bytes
    → None ≡ framed bytes
framed_by line other None e = refl
framed_by line other (Some []) e = refl
framed_by line other (Some (kind ∷ text)) e =
    let long : longest < length text =
    elim (dec_lt longest (length text)) [
      | yes h ↦ h
      | no h ↦ absurd
          (other (suc (length text)) (some_length line (kind ∷ text) e) (omega arith) (omega arith))
    ] in
    rw (lt-leb (length text) longest long)

pub not_framed : (line : List ℕ) → ((n : ℕ) → length line ≡ 2 * n → 1 ≤ n → n ≤ longest + 1 → ⊥) → None ≡ frame_of line
unfolding frame_of
not_framed line other = framed_by line other (bytes_of line) refl

-- ---- a line by what `decode` answers

-- what is no frame by its digits
pub no_digits : (line bytes : List ℕ) → decoded None bytes ≡ bytes_of line → None ≡ frame_of line
unfolding decoded frame_of
no_digits line bytes e = rw (← e)

-- a line that is digits, and not too long
digits_read : (line bytes : List ℕ) (n : ℕ) (done : Unit {0}) → decoded (Some done) (take n bytes) ≡ bytes_of line
    → (kind : Option Kind) → kind ≡ kind_of (get_or bytes 0 0) → 1 ≤ n → n ≤ longest + 1 → n ≤ length bytes
    → of_kind kind (take (n - 1) (drop 1 bytes)) ≡ frame_of line
unfolding decoded frame_of
digits_read line [] n done e kind is some_bytes few room = absurd (omega arith)
digits_read line (b ∷ bytes) zero done e kind is some_bytes few room = absurd (omega arith)
digits_read line (b ∷ bytes) (suc n) done e kind is some_bytes few room =
    let long : length (take n bytes) ≡ n = length-take-le n bytes (omega arith) in
    let text : suc n - 1 ≡ n = omega arith in
    rw (text, ← e, is, long, le-leb n longest (omega arith))

module _ (line bytes : List ℕ) (n : ℕ) (done : Unit {0}) (e : decoded (Some done) (take n bytes) ≡ bytes_of line)
    (some_bytes : 1 ≤ n) (few : n ≤ longest + 1) (room : n ≤ length bytes) where
  pub frame_read : (kind : Kind) → Some kind ≡ kind_of (get_or bytes 0 0) → Some (frame kind (take (n - 1) (drop 1 bytes))) ≡ frame_of line
  frame_read kind is = digits_read line bytes n done e (Some kind) is some_bytes few room

  pub no_kind : None ≡ kind_of (get_or bytes 0 0) → None ≡ frame_of line
  no_kind is = digits_read line bytes n done e None is some_bytes few room
