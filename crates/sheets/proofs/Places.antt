-- Where a line's 0 goes, by what `char_count` and the two calls of `next_field` answer.
-- Assumes nothing.
use mathlib.Core.Path.{◌≡◌, refl, sym, ap, ◌∙◌}
use mathlib.Core.List.{List, [], ◌∷◌}
use mathlib.Core.Option.{Option, none, some}
use Prim.Native.Nat.{ℕ, ◌+◌}
use native.Mathlib.Omega.{arith}
use Rattle.classes.specs.WhiteSpace.{white_space}
use Rattle.utf8.specs.Encoding.{byte_length}
use Rattle.utf8.specs.Text.{chars_of, chars_from, count_of}
use Rattle.utf8.proofs.Positions.{from_start}
use Rattle.lines.specs.Lines.{fields_of, past, field_from, field_at}
use Rattle.lines.proofs.Fields.{FieldFound, field_at_lem, none_at}
use Rattle.lines.proofs.Meanings.{counted}
use Rattle.std.specs.Prelude.{Ok, Err, Some, None}
use Rattle.sheets.specs.Filled.{bare_end, zero_place_of_chars, zero_place}

pub nowhere_malformed : (line : List ℕ) → Err (record {}) ≡ count_of (chars_of line) → None ≡ zero_place line
unfolding zero_place
nowhere_malformed line e = go (chars_of line) e
  where
    go : (o : Option (List ℕ)) → Err (record {}) ≡ count_of o → None ≡ zero_place_of_chars o
    go none f = refl
    go (some cs) f = let z : ◌≡◌ {A = ℕ} 0 1 = cc in absurd (omega arith)

module _ (line : List ℕ) (count : ℕ) (known : Ok count ≡ count_of (chars_of line)) where
  cs : List ℕ
  cs = (counted (chars_of line) count known).0

  e : chars_of line ≡ some cs
  unfolding cs
  e = (counted (chars_of line) count known).1

  from_first : chars_from line 0 ≡ some cs
  from_first = from_start line ∙ e

  by_fields : (fs : List (List ℕ)) → fields_of cs ≡ fs → zero_place line ≡ bare_end (past white_space 0 (some cs)) fs
  unfolding zero_place
  by_fields fs q = rw (e, q)

  pub nowhere_blank : None ≡ field_at 0 (chars_from line 0) → None ≡ zero_place line
  nowhere_blank f = sym (by_fields [] (none_at line 0 cs from_first (omega arith) (sym f)))

  module _ (a b : ℕ) (f : field_from a b ≡ field_at 0 (chars_from line 0)) where
    first : FieldFound line cs 0 a b
    first = field_at_lem line 0 cs from_first (omega arith) a b (sym f)

    pub after_word : None ≡ field_at b (chars_from line b) → Some b ≡ zero_place line
    after_word g =
        let none_after : fields_of first.rest ≡ [] = none_at line b first.rest first.after first.inside (sym g) in
        let end : past white_space 0 (some cs) + byte_length first.word ≡ b =
        sym (first.ends ∙ ap (λ (start : ℕ). start + byte_length first.word) first.starts) in
        sym (by_fields (first.word ∷ []) (first.fields ∙ ap (λ (l : List (List ℕ)). first.word ∷ l) none_after) ∙ ap Some end)

    pub nowhere_second : (c d : ℕ) → field_from c d ≡ field_at b (chars_from line b) → None ≡ zero_place line
    nowhere_second c d g =
        let second : FieldFound line first.rest b c d = field_at_lem line b first.rest first.after first.inside c d (sym g) in
        sym (by_fields (first.word ∷ second.word ∷ fields_of second.rest) (first.fields ∙ ap (λ (l : List (List ℕ)). first.word ∷ l) second.fields))
