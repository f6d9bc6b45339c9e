-- A part of a token as the code finds it, in the terms of `cuts/specs/Tokens.antt`.
-- Assumes nothing.
use Rattle.std.specs.Prelude.{ℕ, not, List, ◌≡◌, get_or}
use Rattle.classes.specs.Tokens.{connector, ascii_letter}
use Rattle.cuts.specs.Tokens.{span, any_of, chars_between}
use Rattle.tokens.specs.Runs.{MaximalRun}
use Rattle.search_parts.specs.declared.Part.{Part}

-- a part that starts at a position ends at the first connector, or where the token does, and is known to have an ASCII letter or none
pub record PartFrom (chars : List ℕ) (from to : ℕ) (part : Part) : Type 0 where
  pub run : MaximalRun (λ i. not (connector (get_or chars i 0))) to from part.end
  pub letters : part.lettered ≡ any_of ascii_letter (chars_between chars (span from part.end))
