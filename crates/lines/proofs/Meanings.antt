-- A line by what its two calls of `next_field` and the frequency's parse answer.
-- Assumes nothing.
use mathlib.Core.Path.{◌≡◌, refl, sym, ap, ◌∙◌}
use mathlib.Core.List.{List, [], ◌∷◌}
use mathlib.Core.Option.{Option, none, some, IsSome}
use Prim.Native.Nat.{ℕ, ◌+◌, ◌-◌, ◌≤◌}
use native.Mathlib.Nat.{zero-add}
use native.Mathlib.Omega.{arith}
use lib.ListN.{length, take, drop}
use Rattle.classes.specs.WhiteSpace.{white_space}
use Rattle.std.specs.Prelude.{Result, Ok, Err, Option as CodeOption, Some, None}
use Rattle.lines.specs.declared.Entry.{Entry}
use Rattle.utf8.specs.Encoding.{byte_length}
use Rattle.utf8.specs.Text.{chars_of, chars_from, count_of}
use Rattle.utf8.proofs.Texts.{texts_only_of_encodings}
use Rattle.utf8.proofs.Positions.{from_start}
use Rattle.lines.specs.declared.BadFrequency.{BadFrequency}
use Rattle.lines.specs.declared.LineError.{LineError}
use Rattle.lines.specs.Lines.{fields_of, frequency_of, Meaning, malformed, blank, bad_frequency, entry, with_frequency, meaning_of_fields, meaning_of_chars}
use Rattle.lines.specs.Lines.{meaning_of, take_while, past, field_from, entry_from, field_at, line_placed, line_of}
use Rattle.lines.proofs.Ascii.{frequency_text}
use Rattle.lines.proofs.Fields.{FieldFound, field_at_lem, none_at, is_some}

-- the characters of a line that is UTF-8
pub counted : (o : Option (List ℕ)) (n : ℕ) → Ok n ≡ count_of o → (cs : List ℕ) × (o ≡ some cs)
counted none n e = let z : ◌≡◌ {A = ℕ} 0 1 = cc in absurd (omega arith)
counted (some cs) n e = (cs, refl)

pub line_malformed : (line : List ℕ) → Err (record {}) ≡ count_of (chars_of line) → Err LineError.Malformed ≡ line_of line
unfolding line_of meaning_of
line_malformed line e = go (chars_of line) e
  where
    go : (o : Option (List ℕ)) → Err (record {}) ≡ count_of o → Err LineError.Malformed ≡ line_placed (past white_space 0 o) (meaning_of_chars o)
    go none f = refl
    go (some cs) f = let z : ◌≡◌ {A = ℕ} 0 1 = cc in absurd (omega arith)

placed_at : (start width a b n : ℕ) → a ≡ start → b ≡ a + width → entry_from start (start + width) n ≡ entry_from a b n
placed_at start width a b n p q = rw (q, p)

-- a line by its fields
module _ (line cs : List ℕ) (e : chars_of line ≡ some cs) (fs : List (List ℕ)) (q : fields_of cs ≡ fs) where
  meaning_by_fields : meaning_of line ≡ meaning_of_fields fs
  unfolding meaning_of
  meaning_by_fields = rw (e, q)

  line_by_fields : line_of line ≡ line_placed (byte_length (take_while white_space cs)) (meaning_of_fields fs)
  unfolding line_of
  line_by_fields = rw (meaning_by_fields, e, zero-add (byte_length (take_while white_space cs)))

module _ (line : List ℕ) (count : ℕ) (known : Ok count ≡ count_of (chars_of line)) where
  cs : List ℕ
  cs = (counted (chars_of line) count known).0

  e : chars_of line ≡ some cs
  unfolding cs
  e = (counted (chars_of line) count known).1

  from_first : chars_from line 0 ≡ some cs
  from_first = from_start line ∙ e

  pub has_chars : IsSome (chars_from line 0)
  has_chars = is_some _ cs from_first

  by_fields : (fs : List (List ℕ)) → fields_of cs ≡ fs → line_of line ≡ line_placed (byte_length (take_while white_space cs)) (meaning_of_fields fs)
  by_fields fs q = line_by_fields line cs e fs q

  pub line_blank : None ≡ field_at 0 (chars_from line 0) → Ok None ≡ line_of line
  line_blank f = sym (by_fields [] (none_at line 0 cs from_first (omega arith) (sym f)))

  module _ (a b : ℕ) (f : field_from a b ≡ field_at 0 (chars_from line 0)) where
    first : FieldFound line cs 0 a b
    first = field_at_lem line 0 cs from_first (omega arith) a b (sym f)

    -- where the second field is looked for
    pub rest_inside : b ≤ length line
    rest_inside = first.inside

    pub rest_has_chars : IsSome (chars_from line b)
    rest_has_chars = is_some _ first.rest first.after

    entry_at : (n : ℕ) → line_placed (byte_length (take_while white_space cs)) (entry first.word n) ≡ entry_from a b n
    entry_at n = placed_at _ _ a b n (first.starts ∙ zero-add (byte_length (take_while white_space cs))) first.ends

    pub line_word : None ≡ field_at b (chars_from line b) → entry_from a b 1 ≡ line_of line
    line_word g =
        let none_after : fields_of first.rest ≡ [] = none_at line b first.rest first.after first.inside (sym g) in
        sym (by_fields (first.word ∷ []) (first.fields ∙ ap (λ (l : List (List ℕ)). first.word ∷ l) none_after) ∙ entry_at 1)

    module _ (c d : ℕ) (g : field_from c d ≡ field_at b (chars_from line b)) where
      second : FieldFound line first.rest b c d
      second = field_at_lem line b first.rest first.after first.inside c d (sym g)

      -- the second field is a part of the line
      pub part : (c ≤ d) × (d ≤ length line)
      part = let p : d ≡ c + byte_length second.word = second.ends in (omega arith, second.inside)

      -- the second field's bytes say what its characters say
      same_frequency : frequency_of (take (d - c) (drop c line)) ≡ frequency_of second.word
      same_frequency = ap frequency_of (sym (texts_only_of_encodings (take (d - c) (drop c line)) second.word second.bytes).1)
          ∙ frequency_text second.word

      two_fields : line_of line ≡ line_placed (byte_length (take_while white_space cs)) (with_frequency first.word (frequency_of second.word))
      two_fields =
          by_fields (first.word ∷ second.word ∷ fields_of second.rest) (first.fields ∙ ap (λ (l : List (List ℕ)). first.word ∷ l) second.fields)

      pub line_entry : (n : ℕ) → Ok n ≡ frequency_of (take (d - c) (drop c line)) → entry_from a b n ≡ line_of line
      line_entry n q = sym (two_fields ∙ rw (← same_frequency, ← q) (entry_at n))

      pub line_bad : Err (record {}) ≡ frequency_of (take (d - c) (drop c line)) → Err LineError.BadFrequency ≡ line_of line
      line_bad q = sym (two_fields ∙ rw (← same_frequency, ← q))

-- ---- what an entry means: the word's characters are in its bytes

pub same_entry : {a b n c d m : ℕ} → entry_from a b n ≡ entry_from c d m → (a ≡ c) × (b ≡ d) × (n ≡ m)
same_entry e = (
  ap (λ (r : Result (CodeOption Entry) LineError). elim r [ Ok (Some q) ↦ q.word.start | Ok None ↦ 0 | Err y ↦ 0 ]) e,
  ap (λ (r : Result (CodeOption Entry) LineError). elim r [ Ok (Some q) ↦ q.word.end | Ok None ↦ 0 | Err y ↦ 0 ]) e,
  ap (λ (r : Result (CodeOption Entry) LineError). elim r [ Ok (Some q) ↦ q.frequency | Ok None ↦ 0 | Err y ↦ 0 ]) e,
)

-- a word of the line, from a to b, and its frequency
pub record EntryFound (line : List ℕ) (a b n : ℕ) : Type 0 where
  pub word : List ℕ
  pub means : meaning_of line ≡ entry word n
  pub bytes : chars_of (take (b - a) (drop a line)) ≡ some word
  pub order : a ≤ b
  pub inside : b ≤ length line

module _ (line cs : List ℕ) (e : chars_of line ≡ some cs) (w : List ℕ) (fs : List (List ℕ)) (q : fields_of cs ≡ w ∷ fs) where
  start : ℕ
  start = byte_length (take_while white_space cs)

  at_start : chars_from line 0 ≡ some cs
  at_start = from_start line ∙ e

  placed : field_at 0 (chars_from line 0) ≡ field_from start (start + byte_length w)
  unfolding start
  placed = rw (at_start, q, zero-add (byte_length (take_while white_space cs)))

  field : FieldFound line cs 0 start (start + byte_length w)
  field = field_at_lem line 0 cs at_start (omega arith) start (start + byte_length w) placed

  entry_bytes : chars_of (take (start + byte_length w - start) (drop start line)) ≡ some w
  entry_bytes = let same : field.word ≡ w = cc field.fields in field.bytes ∙ ap some same

  entry_by : (m : Meaning) (a b n : ℕ) → meaning_of line ≡ m → m ≡ meaning_of_fields (w ∷ fs) → line_placed start m ≡ entry_from a b n → EntryFound line a b n
  entry_by malformed a b n p r f = let z : ◌≡◌ {A = ℕ} 0 1 = cc in absurd (omega arith)
  entry_by blank a b n p r f = let z : ◌≡◌ {A = ℕ} 0 1 = cc in absurd (omega arith)
  entry_by bad_frequency a b n p r f = let z : ◌≡◌ {A = ℕ} 0 1 = cc in absurd (omega arith)
  entry_by (entry v k) a b n p r f =
      let same : v ≡ w = word_of fs v k r in
      let parts = same_entry f in
      let ends : start + byte_length w ≡ b = ap (λ (x : List ℕ). start + byte_length x) (sym same) ∙ parts.1 in
      rw (← parts.0, ← ends, ← parts.2) (record {
        word = w;
        means = p ∙ ap (λ (x : List ℕ). entry x k) same;
        bytes = entry_bytes;
        order = omega arith;
        inside = field.inside;
      })
    where
      word_of : (gs : List (List ℕ)) (v : List ℕ) (k : ℕ) → entry v k ≡ meaning_of_fields (w ∷ gs) → v ≡ w
      word_of [] v k r = cc
      word_of (g ∷ gs) v k r = by (frequency_of g) r
        where
          by : (x : Result ℕ BadFrequency) → entry v k ≡ with_frequency w x → v ≡ w
          by (Err y) r = let z : ◌≡◌ {A = ℕ} 0 1 = cc in absurd (omega arith)
          by (Ok m) r = cc

pub entry_found : (line : List ℕ) (a b n : ℕ) → line_of line ≡ entry_from a b n → EntryFound line a b n
entry_found line a b n f = by_chars (chars_of line) refl
  where
    by_list : (cs : List ℕ) → chars_of line ≡ some cs → (gs : List (List ℕ)) → fields_of cs ≡ gs → EntryFound line a b n
    by_list cs e [] q = let g = line_by_fields line cs e [] q in let z : ◌≡◌ {A = ℕ} 0 1 = cc in absurd (omega arith)
    by_list cs e (w ∷ fs) q =
        entry_by line cs e w fs q (meaning_of_fields (w ∷ fs)) a b n (meaning_by_fields line cs e (w ∷ fs) q) refl
        (unfold start in sym (line_by_fields line cs e (w ∷ fs) q) ∙ f)

    by_chars : (o : Option (List ℕ)) → chars_of line ≡ o → EntryFound line a b n
    by_chars none e = let g : Err LineError.Malformed ≡ line_of line = line_malformed line (rw e refl) in let z : ◌≡◌ {A = ℕ} 0 1 = cc in absurd (omega arith)
    by_chars (some cs) e = by_list cs e (fields_of cs) refl
