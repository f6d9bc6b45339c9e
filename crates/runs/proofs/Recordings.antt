-- A run that is being recorded: the loop of `next_recording`.
-- What is kept at each turn is `Recording`: the text from the run's start is the characters recorded, all of one kind, and then the text from the
-- position reached; and the slices have these characters and the place of each of them. A turn reads one character, of the same kind, which
-- before the first character is any. Where the text ends, or its next character is of the other kind, what is recorded is the text's first block.
-- Assumes nothing.
use Prim.Native.Nat.{ℕ, suc, ◌+◌, ◌/◌, ◌^◌, ◌≤◌, ◌<◌}
use mathlib.Core.Bool.{Bool, true, not, beq}
use mathlib.Core.List.{List, [], ◌∷◌, ◌++◌, append_assoc}
use mathlib.Core.Option.{Option, none, some, IsSome}
use mathlib.Core.Path.{◌≡◌, refl, sym, ap, ◌∙◌, subst}
use native.Mathlib.Nat.{add-zero}
use native.Mathlib.Numerals.{add-one}
use native.Mathlib.Omega.{arith}
use lib.ListN.{length, get_or, set, take, length-set}
use lib.Seq.{length-take-le, take-take, take-set-le, take-suc-set, get_or-set_same, get_or-set_other}
use Rattle.utf8.specs.Characters.{char, character_at}
use Rattle.utf8.specs.Text.{before, chars_from}
use Rattle.utf8.specs.Encoding.{encode, byte_length}
use Rattle.utf8.specs.Utf16.{units_of, unit_length}
use Rattle.utf8.proofs.Utf16.{unit_length_append}
use Rattle.utf8.proofs.Positions.{from_char, from_end, inside, width_of, units_of_lem, byte_length_append, byte_length_cons, no_more_units}
use Rattle.utf8.proofs.Positions.{value_below, still_chars}
use Rattle.score.proofs.Tests.{by_leb}
use Rattle.cuts.specs.Slices.{Characters, packed}
use Rattle.cuts.proofs.Offsets.{high_part}
use Rattle.book.specs.Returns.{longest_text}
use Rattle.runs.specs.Runs.{text_from, Recorded}
use Rattle.runs.proofs.Classes.{other_kind}
use Rattle.runs.proofs.Blocks.{OfKind, EndsBefore, none_of_kind, one_more_of_kind, ends_at_end, ends_at_other, first_block}

-- ---- the text from a position on

text_after : (c : ℕ) (rest : Option (List ℕ)) → IsSome rest
    → elim (before c rest) [ none ↦ [] | some cs ↦ cs ] ≡ c ∷ elim rest [ none ↦ [] | some cs ↦ cs ]
text_after c none some_rest = absurd some_rest
text_after c (some cs) some_rest = refl

module _ (s : List ℕ) (at : ℕ) where
  -- a character, and then the text after it
  pub text_char : (c w u : ℕ) → character_at s at ≡ char c w u → IsSome (chars_from s at) → text_from s at ≡ c ∷ text_from s (at + w)
  unfolding text_from
  text_char c w u read well_formed =
      rw (text_from, from_char s at c w u read) (text_after c (chars_from s (at + w)) (still_chars s at well_formed c w u read))

  pub text_end : length s ≤ at → text_from s at ≡ []
  unfolding text_from
  text_end past = rw (text_from, from_end s at past)

-- ---- the characters that are recorded, after one more

-- what holds below n and of n holds below n + 1
below_next : (P : ℕ → Type 0) (n : ℕ) → ((i : ℕ) → i < n → P i) → P n → (i : ℕ) → i < n + 1 → P i
below_next P n below here i within =
    by_leb n i (λ (t : Bool). P i) (λ h. let same : n ≡ i = omega arith in subst P same here) (λ h. below i h)

take_next : (chars : List ℕ) (n c : ℕ) → n < length chars → take (n + 1) (set chars n c) ≡ take n chars ++ (c ∷ [])
take_next chars n c fits = rw (add-one n) (take-suc-set chars n c fits)

byte_length_next : (run : List ℕ) (c : ℕ) → byte_length (run ++ (c ∷ [])) ≡ byte_length run + length (encode c)
unfolding byte_length
byte_length_next run c = byte_length_append run (c ∷ []) ∙ ap (λ (k : ℕ). byte_length run + k) (byte_length_cons c [] ∙ add-zero (length (encode c)))

unit_length_next : (run : List ℕ) (c : ℕ) → unit_length (run ++ (c ∷ [])) ≡ unit_length run + units_of c
unfolding unit_length
unit_length_next run c = unit_length_append run (c ∷ []) ∙ ap (λ (k : ℕ). unit_length run + k) (add-zero (units_of c))

-- ---- the loop

-- the place behind a run that starts at the given byte and UTF-16 offsets
abbrev place_behind : ℕ → ℕ → List ℕ → ℕ
place_behind at from run = packed (at + byte_length run) (from + unit_length run)

-- it moves on by what a character's bytes and units come to
further : (reached step at from bytes units w u : ℕ) → reached ≡ packed (at + bytes) (from + units) → step ≡ packed w u
    → reached + step ≡ packed (at + (bytes + w)) (from + (units + u))
further reached step at from bytes units w u here is_step = omega arith

module _ (class : ℕ → Bool) (s : List ℕ) (at from : ℕ) (matched : Bool) where
  -- n characters are recorded, from the run's start up to the position `end`, whose place is `reached`
  pub record Recording (n end reached : ℕ) (chars offsets : List ℕ) : Type 0 where
    pub inside_text : end ≤ length s
    pub well_formed : IsSome (chars_from s end)
    pub text : text_from s at ≡ take n chars ++ text_from s end
    pub counted : length (text_from s at) ≡ n + length (text_from s end)
    pub kind : OfKind class matched (take n chars)
    pub bytes : end ≡ at + byte_length (take n chars)
    pub place : reached ≡ place_behind at from (take n chars)
    pub chars_long : length (text_from s at) < length chars
    pub offsets_long : length (text_from s at) < length offsets
    pub characters : Characters n chars
    pub offset : (i : ℕ) → i < n → get_or offsets i 0 ≡ place_behind at from (take i chars)

  -- before anything is read
  pub nothing_read : (chars offsets : List ℕ)
      → at < length s
      → IsSome (chars_from s at)
      → length (text_from s at) < length chars
      → length (text_from s at) < length offsets
      → (place : ℕ)
      → place ≡ packed at from
      → Recording 0 at place chars offsets
  unfolding byte_length unit_length
  nothing_read chars offsets within well_formed chars_long offsets_long place is_place =
      record {
        inside_text = omega arith;
        well_formed = well_formed;
        text = refl;
        counted = omega arith;
        kind = none_of_kind class matched;
        bytes = omega arith;
        place = is_place ∙ ap (λ (k : ℕ). packed k from) (sym (add-zero at)) ∙ ap (packed (at + 0)) (sym (add-zero from));
        chars_long = chars_long;
        offsets_long = offsets_long;
        characters = λ i below. absurd (omega arith);
        offset = λ i below. absurd (omega arith);
      }

  module _ (n end reached : ℕ) (chars offsets : List ℕ) (so_far : Recording n end reached chars offsets) where
    -- no more characters are recorded than there are, so the slices have room
    few : n ≤ length (text_from s at)
    few = omega (arith, so_far.counted)

    taken : length (take n chars) ≡ n
    taken = length-take-le n chars (omega (arith, few, so_far.chars_long))

    -- no more units than bytes are passed
    few_units : from ≤ at → from + unit_length (take n chars) ≤ end
    few_units fewer = omega (arith, so_far.bytes, no_more_units (take n chars))

    -- so the place fits into 64 bits, far from full, and has them as its upper half
    module _ (fewer : from ≤ at) (short : length s ≤ longest_text) where
      pub place_fits : reached ≤ packed longest_text longest_text
      place_fits = omega (arith, so_far.place, so_far.bytes, so_far.inside_text, few_units fewer)

      pub units_of_place : reached / 2 ^ 32 ≡ from + unit_length (take n chars)
      units_of_place =
          let below : at + byte_length (take n chars) < 2 ^ 32 = omega (arith, so_far.bytes, so_far.inside_text) in
          ap (λ (p : ℕ). p / 2 ^ 32) so_far.place ∙ high_part (at + byte_length (take n chars)) (from + unit_length (take n chars)) below

    -- one more character, of the run's kind, and how far it goes
    module _ (c w u : ℕ) (read : character_at s end ≡ char c w u) (same : class c ≡ matched) (step : ℕ) (is_step : step ≡ packed w u) where
      fits_chars : n < length chars
      fits_chars = omega (arith, few, so_far.chars_long)

      fits_offsets : n < length offsets
      fits_offsets = omega (arith, few, so_far.offsets_long)

      rest : text_from s end ≡ c ∷ text_from s (end + w)
      rest = text_char s end c w u read so_far.well_formed

      text_next : text_from s at ≡ take (n + 1) (set chars n c) ++ text_from s (end + w)
      text_next =
          rw (take_next chars n c fits_chars)
          (so_far.text
          ∙ ap (λ (r : List ℕ). take n chars ++ r) rest
          ∙ sym (append_assoc (take n chars) (c ∷ []) (text_from s (end + w))))

      counted_next : length (text_from s at) ≡ n + 1 + length (text_from s (end + w))
      counted_next =
          let l : length (text_from s end) ≡ suc (length (text_from s (end + w))) = ap length rest in
          omega (arith, so_far.counted)

      bytes_next : end + w ≡ at + byte_length (take (n + 1) (set chars n c))
      bytes_next =
          rw (take_next chars n c fits_chars, byte_length_next (take n chars) c, width_of s end c w u read) (omega (arith, so_far.bytes))

      place_next : reached + step ≡ place_behind at from (take (n + 1) (set chars n c))
      place_next =
          rw (
            take_next chars n c fits_chars,
            byte_length_next (take n chars) c,
            unit_length_next (take n chars) c,
            width_of s end c w u read,
            units_of_lem s end c w u read,
          )
          (further reached step at from (byte_length (take n chars)) (unit_length (take n chars)) w u so_far.place is_step)

      characters_next : Characters (n + 1) (set chars n c)
      characters_next = below_next (λ (i : ℕ). get_or (set chars n c) i 0 < 2 ^ 21) n below here
        where
          below : (i : ℕ) → i < n → get_or (set chars n c) i 0 < 2 ^ 21
          below i h = let other : i ≡ n → ⊥ = omega arith in rw (get_or-set_other chars n i c 0 other) (so_far.characters i h)

          here : get_or (set chars n c) n 0 < 2 ^ 21
          here = rw (get_or-set_same chars n c 0 fits_chars) (value_below s end c w u read)

      offset_next : (i : ℕ) → i < n + 1 → get_or (set offsets n reached) i 0 ≡ place_behind at from (take i (set chars n c))
      offset_next = below_next (λ (i : ℕ). get_or (set offsets n reached) i 0 ≡ place_behind at from (take i (set chars n c))) n below here
        where
          below : (i : ℕ) → i < n → get_or (set offsets n reached) i 0 ≡ place_behind at from (take i (set chars n c))
          below i h =
              let other : i ≡ n → ⊥ = omega arith in
              rw (get_or-set_other offsets n i reached 0 other, take-set-le i chars n c (omega arith)) (so_far.offset i h)

          here : get_or (set offsets n reached) n 0 ≡ place_behind at from (take n (set chars n c))
          here = rw (get_or-set_same offsets n reached 0 fits_offsets, take-set-le n chars n c (omega arith)) so_far.place

      pub one_more_read : Recording (n + 1) (end + w) (reached + step) (set chars n c) (set offsets n reached)
      one_more_read =
          record {
            inside_text = (inside s end c w u read).2;
            well_formed = still_chars s end so_far.well_formed c w u read;
            text = text_next;
            counted = counted_next;
            kind = rw (take_next chars n c fits_chars) (one_more_of_kind class matched (take n chars) c so_far.kind same);
            bytes = bytes_next;
            place = place_next;
            chars_long = simp length-set so_far.chars_long;
            offsets_long = simp length-set so_far.offsets_long;
            characters = characters_next;
            offset = offset_next;
          }

    -- the text ends here, or goes on with a character of the other kind
    pub ends_with_text : length s ≤ end → EndsBefore class matched (text_from s end)
    ends_with_text past = rw (text_end s end past) (ends_at_end class matched)

    pub ends_at_character : (c w u : ℕ) (answer : Bool)
        → character_at s end ≡ char c w u
        → answer ≡ class c
        → not (beq answer matched) ≡ true
        → EndsBefore class matched (text_from s end)
    ends_at_character c w u answer read is_class other =
        rw (text_char s end c w u read so_far.well_formed)
        (ends_at_other class matched c (text_from s (end + w)) (other_kind (class c) matched (rw is_class at other)))

    -- the run is recorded, with the place of its end
    module _ (ends : EndsBefore class matched (text_from s end)) (some_read : 1 ≤ n) (forward : at < end)
        (units : ℕ) (is_units : units ≡ from + unit_length (take n chars)) where
      offset_all : (i : ℕ) → i < n + 1 → get_or (set offsets n reached) i 0 ≡ place_behind at from (take i (take n chars))
      offset_all = below_next (λ (i : ℕ). get_or (set offsets n reached) i 0 ≡ place_behind at from (take i (take n chars))) n below here
        where
          below : (i : ℕ) → i < n → get_or (set offsets n reached) i 0 ≡ place_behind at from (take i (take n chars))
          below i h =
              let other : i ≡ n → ⊥ = omega arith in
              rw (get_or-set_other offsets n i reached 0 other, take-take i n chars (omega arith)) (so_far.offset i h)

          here : get_or (set offsets n reached) n 0 ≡ place_behind at from (take n (take n chars))
          here =
              rw (get_or-set_same offsets n reached 0 (omega (arith, few, so_far.offsets_long)), take-take n n chars (omega arith)) so_far.place

      pub run_recorded : Recorded class s at from (record { matched = matched; chars = n; end = end; units = units }) chars (set offsets n reached)
      run_recorded =
          record {
            fits = omega (arith, few, so_far.chars_long);
            forward = forward;
            inside = so_far.inside_text;
            well_formed = so_far.well_formed;
            block =
                rw so_far.text
                (first_block class matched (take n chars) (text_from s end) (omega (arith, taken)) so_far.kind ends);
            counted = so_far.counted;
            bytes = so_far.bytes;
            units = is_units;
            characters = so_far.characters;
            offset = λ i last. offset_all i (omega (arith, taken));
          }

-- ---- the kind of the run

module _ (class : ℕ → Bool) (s : List ℕ) (at from : ℕ) (matched kind : Bool) (n end reached : ℕ) (chars offsets : List ℕ)
    (so_far : Recording class s at from matched n end reached chars offsets) where
  -- what is recorded is of a kind too, if its characters are
  with_kind : OfKind class kind (take n chars) → Recording class s at from kind n end reached chars offsets
  with_kind of_kind =
      record {
        inside_text = so_far.inside_text;
        well_formed = so_far.well_formed;
        text = so_far.text;
        counted = so_far.counted;
        kind = of_kind;
        bytes = so_far.bytes;
        place = so_far.place;
        chars_long = so_far.chars_long;
        offsets_long = so_far.offsets_long;
        characters = so_far.characters;
        offset = so_far.offset;
      }

  -- where nothing is read, of any kind
  pub of_any_kind : n ≤ 0 → Recording class s at from kind n end reached chars offsets
  of_any_kind none_read = with_kind (let zero : n ≡ 0 = omega arith in rw zero (none_of_kind class kind))

  pub of_same_kind : kind ≡ matched → Recording class s at from kind n end reached chars offsets
  of_same_kind same = rw same so_far
