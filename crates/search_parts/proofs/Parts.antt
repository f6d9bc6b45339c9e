-- The parts of a token between its connectors: the loop of `next_part`, which finds where a part ends, and what the parts from a position on are, by the
-- part that starts there. A part ends at the first connector; so it is the first of the parts that are left, and they go on behind that connector.
-- Assumes nothing.
use Prim.Native.Nat.{ℕ, zero, suc, ◌+◌, ◌-◌, ◌≤◌, ◌<◌, ◌%◌, ◌^◌}
use mathlib.Core.Bool.{Bool, true, false, not, ◌||◌, or-true, or-false, and-false}
use mathlib.Core.List.{List, [], ◌∷◌, ◌++◌}
use mathlib.Core.Path.{◌≡◌, sym, ap, ◌∙◌}
use native.Mathlib.Omega.{arith}
use borrow.Author.Tests.{not-true, not-false, le-leb, lt-leb}
use lib.Dec.{leb}
use lib.ListN.{length, get_or, take}
use lib.Seq.{get_or-take}
use Rattle.utf8.specs.Encoding.{byte_length}
use Rattle.utf8.proofs.Positions.{byte_length_append}
use Rattle.classes.specs.Tokens.{connector, ascii_letter}
use Rattle.cuts.specs.Slices.{Placed}
use Rattle.cuts.specs.Tokens.{Span, span, any_of, those, parts, chars_between, searchable, parts_of, Base}
use Rattle.tokens.proofs.Ends.{Running, run_begins, run_on, run_stops, run_ends}
use Rattle.search_parts.specs.declared.Part.{Part}
use Rattle.search_parts.specs.Parts.{PartFrom}
use Rattle.cuts.proofs.Offsets.{bytes_at}
use Rattle.cuts.proofs.Lists.{those_first, those_kept, those_left, any_more, between_none, between_next, between_more, before_and_between, between_in_block}

-- no connector stands at a position
abbrev pub within : List ℕ → ℕ → Bool
within chars i = not (connector (get_or chars i 0))

abbrev pub part_to : ℕ → Bool → Part
part_to end lettered = record { end = end; lettered = lettered }

-- ---- the loop of `next_part`: the characters passed are no connectors, and it is known whether a letter was among them

pub record Reading (chars : List ℕ) (from to end : ℕ) (lettered : Bool) : Type 0 where
  pub run : Running (within chars) to from end
  pub letters : lettered ≡ any_of ascii_letter (chars_between chars (span from end))

pub reading_begins : (chars : List ℕ) (from to : ℕ) → from ≤ to → Reading chars from to from false
reading_begins chars from to h =
    record { run = run_begins (within chars) to from h; letters = ap (any_of ascii_letter) (sym (between_none chars from)) }

module _ {chars : List ℕ} {from to end : ℕ} {lettered : Bool} (here : Reading chars from to end lettered) where
  pub reading_ends : to ≤ end → PartFrom chars from to (part_to end lettered)
  reading_ends h = record { run = run_ends here.run h; letters = here.letters }

  -- what `is_connector` answers with r
  module _ (r : Bool) (class : r ≡ connector (get_or chars end 0)) where
    pub reading_stops : r ≡ true → PartFrom chars from to (part_to end lettered)
    reading_stops e = record { run = run_stops here.run (ap not (sym class ∙ e)); letters = here.letters }

    -- the character is passed, and it is a letter as `is_ascii_alphabetic` answers with l
    module _ (inside : end < to) (long : to ≤ length chars) (other : r ≡ false) (l : Bool) (letter : l ≡ ascii_letter (get_or chars end 0)) where
      onward : (now : Bool) → now ≡ lettered || ascii_letter (get_or chars end 0) → Reading chars from to (end + 1) now
      onward now e =
          record {
            run = run_on here.run inside (ap not (sym class ∙ other));
            letters =
                e
                ∙ ap (λ (t : Bool). t || ascii_letter (get_or chars end 0)) here.letters
                ∙ sym (any_more ascii_letter (chars_between chars (span from end)) (get_or chars end 0))
                ∙ ap (any_of ascii_letter) (sym (between_more chars from end here.run.forward (omega arith)));
          }

      pub passes_letter : l ≡ true → Reading chars from to (end + 1) true
      passes_letter e = onward true (sym (ap (λ (t : Bool). lettered || t) (sym letter ∙ e) ∙ or-true lettered))

      pub passes_other : l ≡ false → Reading chars from to (end + 1) lettered
      passes_other e = onward lettered (sym (ap (λ (t : Bool). lettered || t) (sym letter ∙ e) ∙ or-false lettered))

-- ---- a part of the slice's characters is one of the block's

pub in_block : (chars : List ℕ) (n : ℕ) {from to : ℕ} {part : Part} → to ≤ n → to ≤ length chars → PartFrom chars from to part
    → PartFrom (take n chars) from to part
in_block chars n {from} {to} {part} inside long found =
    let ended : part.end ≤ to = found.run.inside in
    record {
      run =
          record {
            forward = found.run.forward;
            inside = found.run.inside;
            all = λ i first last. ap (λ (c : ℕ). not (connector c)) (get_or-take n chars i 0 (omega arith)) ∙ found.run.all i first last;
            no_more = λ h. ap (λ (c : ℕ). not (connector c)) (get_or-take n chars part.end 0 (omega arith)) ∙ found.run.no_more h;
          };
      letters = found.letters ∙ ap (any_of ascii_letter) (sym (between_in_block chars n from part.end (omega arith) (omega arith)));
    }

-- ---- the parts of a token that ends at y

-- whether a part of a block is searched for
abbrev pub searchable_in : List ℕ → Span → Bool
searchable_in cs p = searchable (chars_between cs p)

-- the parts from a position on that are
unfoldable pub parts_left : List ℕ → ℕ → ℕ → List Span
parts_left cs y from = those (searchable_in cs) (parts from from (chars_between cs (span from y)))

module _ (cs : List ℕ) (y : ℕ) (long : y ≤ length cs) where
  passed : (from at : ℕ) → at < y → connector (get_or cs at 0) ≡ false
      → parts from at (chars_between cs (span at y)) ≡ parts from (at + 1) (chars_between cs (span (at + 1) y))
  unfolding parts
  passed from at h e = ap (parts from at) (between_next cs at y h long) ∙ rw (parts, e)

  ended : (from at : ℕ) → at < y → connector (get_or cs at 0) ≡ true
      → parts from at (chars_between cs (span at y)) ≡ span from at ∷ parts (at + 1) (at + 1) (chars_between cs (span (at + 1) y))
  unfolding parts
  ended from at h e = ap (parts from at) (between_next cs at y h long) ∙ rw (parts, e)

  module _ {from : ℕ} {part : Part} (first : PartFrom cs from y part) where
    no_connector : (at : ℕ) → from ≤ at → at < part.end → connector (get_or cs at 0) ≡ false
    no_connector at h l = not-true (connector (get_or cs at 0)) (first.run.all at h l)

    a_connector : part.end < y → connector (get_or cs part.end 0) ≡ true
    a_connector h = not-false (connector (get_or cs part.end 0)) (first.run.no_more h)

    -- the part's characters are passed one by one
    along : (k at : ℕ) → at + k ≡ part.end → from ≤ at
        → parts from at (chars_between cs (span at y)) ≡ parts from part.end (chars_between cs (span part.end y))
    along zero at e h = let there : at ≡ part.end = omega arith in rw there
    along (suc k) at e h =
        let inside : part.end ≤ y = first.run.inside in
        passed from at (omega arith) (no_connector at h (omega arith)) ∙ along k (at + 1) (omega arith) (omega arith)

    any_along : (k at : ℕ) → at + k ≡ part.end → from ≤ at
        → any_of connector (chars_between cs (span at y)) ≡ any_of connector (chars_between cs (span part.end y))
    any_along zero at e h = let there : at ≡ part.end = omega arith in rw there
    any_along (suc k) at e h =
        let inside : part.end ≤ y = first.run.inside in
        ap (any_of connector) (between_next cs at y (omega arith) long)
        ∙ ap (λ (t : Bool). t || any_of connector (chars_between cs (span (at + 1) y))) (no_connector at h (omega arith))
        ∙ any_along k (at + 1) (omega arith) (omega arith)

    through : parts from from (chars_between cs (span from y)) ≡ parts from part.end (chars_between cs (span part.end y))
    through = let forward : from ≤ part.end = first.run.forward in along (part.end - from) from (omega arith) (omega arith)

    any_through : any_of connector (chars_between cs (span from y)) ≡ any_of connector (chars_between cs (span part.end y))
    any_through = let forward : from ≤ part.end = first.run.forward in any_along (part.end - from) from (omega arith) (omega arith)

    -- a connector ends the part: the others are behind it
    pub part_then : part.end < y → parts_left cs y from ≡ those (searchable_in cs) (span from part.end ∷ []) ++ parts_left cs y (part.end + 1)
    unfolding parts_left
    part_then h =
        ap (those (searchable_in cs)) (through ∙ ended from part.end h (a_connector h))
        ∙ those_first (searchable_in cs) (span from part.end) (parts (part.end + 1) (part.end + 1) (chars_between cs (span (part.end + 1) y)))

    -- the token's end does: it is the last
    pub last_part : y ≤ part.end → parts_left cs y from ≡ those (searchable_in cs) (span from part.end ∷ [])
    unfolding parts_left parts
    last_part h =
        let inside : part.end ≤ y = first.run.inside in
        let there : part.end ≡ y = omega arith in
        let only : parts from part.end (chars_between cs (span part.end y)) ≡ span from part.end ∷ [] = rw (there, between_none cs y) in
        ap (those (searchable_in cs)) (through ∙ only)

    -- a token whose first part ends before it has a connector, and its parts are all from its start on
    pub parted : part.end < y → parts_of cs (span from y) ≡ parts_left cs y from
    unfolding parts_of parts_left
    parted h =
        let has_one : any_of connector (chars_between cs (span from y)) ≡ true =
        any_through
        ∙ ap (any_of connector) (between_next cs part.end y h long)
        ∙ ap (λ (t : Bool). t || any_of connector (chars_between cs (span (part.end + 1) y))) (a_connector h) in
        rw has_one

    -- a token that is its own first part has none
    pub whole : part.end ≡ y → parts_of cs (span from y) ≡ []
    unfolding parts_of
    whole there =
        let has_none : any_of connector (chars_between cs (span from y)) ≡ false = any_through ∙ rw (there, between_none cs y) in
        rw has_none

-- ---- `emit_part`: a part is searched for if it has a letter and its offsets are 2 or more apart

module _ (place : Base) (base : ℕ) (cs offsets : List ℕ) (from end : ℕ) (lettered : Bool)
    (known : Placed place base cs offsets) (forward : from ≤ end) (inside : end ≤ length cs)
    (letters : lettered ≡ any_of ascii_letter (chars_between cs (span from end))) where
  -- its byte offsets, as `byte_offset` has them of its places
  apart : get_or offsets end 0 % 2 ^ 32 ≡ get_or offsets from 0 % 2 ^ 32 + byte_length (chars_between cs (span from end))
  apart =
      let all : byte_length (take end cs) ≡ byte_length (take from cs) + byte_length (chars_between cs (span from end)) =
      ap byte_length (before_and_between cs from end forward) ∙ byte_length_append (take from cs) (chars_between cs (span from end)) in
      omega (arith, all, bytes_at known from (omega arith), bytes_at known end inside)

  pub taken : lettered ≡ true → get_or offsets from 0 % 2 ^ 32 + 2 ≤ get_or offsets end 0 % 2 ^ 32
      → those (searchable_in cs) (span from end ∷ []) ≡ span from end ∷ []
  taken e h =
      those_kept (searchable_in cs) (span from end)
      (rw (le-leb 2 (byte_length (chars_between cs (span from end))) (omega (arith, apart)), ← letters, e))

  pub too_short : get_or offsets end 0 % 2 ^ 32 < get_or offsets from 0 % 2 ^ 32 + 2 → those (searchable_in cs) (span from end ∷ []) ≡ []
  too_short h =
      those_left (searchable_in cs) (span from end)
      (rw (lt-leb 2 (byte_length (chars_between cs (span from end))) (omega (arith, apart))))

  pub no_letter : lettered ≡ false → those (searchable_in cs) (span from end ∷ []) ≡ []
  no_letter e =
      those_left (searchable_in cs) (span from end)
      (rw (← letters, e) (and-false (leb 2 (byte_length (chars_between cs (span from end))))))
