-- The proof of `BeginningIsEnough`; those of the other claims are in `Input.antt`. Assumes nothing.
use mathlib.Core.Path.{sym, ap, ◌∙◌}
use native.Mathlib.Decide.{dec_lt}
use native.Mathlib.Omega.{arith}
use lib.ListN.{length, take}
use lib.Seq.{take_all, length-take-le}
use Rattle.frames.specs.Frames.{frame_of}
use Rattle.input_lines.specs.Input.{most_kept}
use Rattle.input_lines.specs.Claims.{BeginningIsEnough}
use Rattle.frames.proofs.Bytes.{not_framed}

-- a line that is longer is no frame, and its beginning, of an odd number of bytes, is none either
pub beginning_is_enough : BeginningIsEnough
beginning_is_enough line =
    elim (dec_lt most_kept (length line)) [
      | yes longer ↦
          let long = length-take-le most_kept line (omega arith) in
          sym (not_framed (take most_kept line) (λ n e some_bytes few. omega arith)) ∙ not_framed line (λ n e some_bytes few. omega arith)
      | no not_longer ↦ ap frame_of (take_all most_kept line (omega arith))
    ]
