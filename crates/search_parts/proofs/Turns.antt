-- The loop of `emit_parts`: the parts that are left, put after what is written so far, come to what all of the token's parts come to, wherever the block
-- stands. Assumes nothing.
use Rattle.std.specs.Prelude.{Result, Ok, Err}
use Prim.Native.Nat.{ℕ, ◌+◌, ◌≤◌, ◌<◌}
use mathlib.Core.List.{List, [], ◌∷◌}
use mathlib.Core.Path.{◌≡◌, refl, sym, ap, ◌∙◌}
use native.Mathlib.Omega.{arith}
use lib.ListN.{length, take}
use Rattle.classes.specs.Tokens.{ascii_letter}
use Rattle.cuts.specs.declared.CutError.{CutError}
use Rattle.cuts.specs.Slices.{Placed}
use Rattle.cuts.specs.Tokens.{Span, span, any_of, those, chars_between, searchable, parts_of, Base, written}
use Rattle.cuts.specs.Cuts.{CutAnswer, answer, cut_answer, put_spans}
use Rattle.cuts.proofs.Sequence.{all_put, stops_there, goes_on_there}
use Rattle.cuts.proofs.Lists.{block_long}
use Rattle.search_parts.specs.declared.Part.{Part}
use Rattle.search_parts.specs.Parts.{PartFrom}
use Rattle.search_parts.proofs.Parts.{in_block, parts_left, part_then, last_part, parted, whole}

module _ (chars offsets : List ℕ) (base x y : ℕ) (area₀ : List ℕ) (count₀ : ℕ) where
  -- an answer is that of all the token's parts
  abbrev pub AllParts : CutAnswer → Type 0
  AllParts a = (place : Base) (n : ℕ) → y ≤ n → Placed place base (take n chars) offsets
      → a ≡ put_spans place (take n chars) (written count₀ area₀) (parts_of (take n chars) (span x y))

  -- the part that starts at a position is read, and those before it are written
  pub record PartsPut (area : List ℕ) (count from : ℕ) (part : Part) : Type 0 where
    pub found : PartFrom chars from y part
    pub long : length area ≡ length area₀
    pub same : (place : Base) (n : ℕ) → y ≤ n → Placed place base (take n chars) offsets
        → put_spans place (take n chars) (written count area) (parts_left (take n chars) y from)
        ≡ put_spans place (take n chars) (written count₀ area₀) (parts_of (take n chars) (span x y))

  module _ (in_chars : y ≤ length chars) {part : Part} (first : PartFrom chars x y part) where
    -- the first part is the token
    pub no_parts : part.end ≡ y → AllParts (answer (Ok tt) (written count₀ area₀))
    no_parts there place n inside known =
        all_put place (take n chars) (written count₀ area₀) {spans = parts_of (take n chars) (span x y)} refl
        (whole (take n chars) y (block_long chars n y inside in_chars) (in_block chars n inside in_chars first) there)

    pub parts_begin : (part.end ≡ y → ⊥) → PartsPut area₀ count₀ x part
    parts_begin other =
        let ended : part.end ≤ y = first.run.inside in
        record {
          found = first;
          long = refl;
          same = λ place n inside known.
              ap (put_spans place (take n chars) (written count₀ area₀))
              (sym (parted (take n chars) y (block_long chars n y inside in_chars) (in_block chars n inside in_chars first) (omega arith)));
        }

  -- a part, which `emit_part` answers with r
  module _ (in_chars : y ≤ length chars) {area : List ℕ} {count from : ℕ} {part : Part} (here : PartsPut area count from part) (r : Result ℕ CutError) (after : List ℕ)
      (put : (place : Base) (cs : List ℕ) → Placed place base cs offsets → part.end ≤ length cs
      → part.lettered ≡ any_of ascii_letter (chars_between cs (span from part.end))
      → cut_answer r after ≡ put_spans place cs (written count area) (those (λ p. searchable (chars_between cs p)) (span from part.end ∷ []))) where
    ended : part.end ≤ y
    ended = here.found.run.inside

    -- the part, if it is searched for
    abbrev now : ℕ → List Span
    now n = those (λ p. searchable (chars_between (take n chars) p)) (span from part.end ∷ [])

    module _ (place : Base) (n : ℕ) (inside : y ≤ n) (known : Placed place base (take n chars) offsets) where
      block : y ≤ length (take n chars)
      block = block_long chars n y inside in_chars

      found_in : PartFrom (take n chars) from y part
      found_in = in_block chars n inside in_chars here.found

      put_in : cut_answer r after ≡ put_spans place (take n chars) (written count area) (now n)
      put_in = put place (take n chars) known (omega (arith, ended, block)) found_in.letters

    pub part_refused : part.end < y → {e : CutError} → r ≡ Err e → AllParts (cut_answer (Err e) after)
    part_refused h e place n inside known =
        stops_there place (take n chars) (written count area) (here.same place n inside known) (now n) _
        (part_then (take n chars) y (block place n inside known) (found_in place n inside known) h) r after (put_in place n inside known) e

    pub part_put : part.end < y → {m : ℕ} → r ≡ Ok m → length after ≡ length area
        → {next : Part} → PartFrom chars (part.end + 1) y next → PartsPut after m (part.end + 1) next
    part_put h e kept found =
        record {
          found = found;
          long = kept ∙ here.long;
          same = λ place n inside known.
              goes_on_there place (take n chars) (written count area) (here.same place n inside known) (now n) _
              (part_then (take n chars) y (block place n inside known) (found_in place n inside known) h) r after (put_in place n inside known) e;
        }

    pub part_last : y ≤ part.end → AllParts (cut_answer r after)
    part_last h place n inside known =
        put_in place n inside known
        ∙ ap (put_spans place (take n chars) (written count area))
        (sym (last_part (take n chars) y (block place n inside known) (found_in place n inside known) h))
        ∙ here.same place n inside known
