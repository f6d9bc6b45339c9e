-- The tokens of one position's walk, in the terms of `cuts/specs/Cuts.antt`.
-- Assumes nothing.
use Rattle.std.specs.Prelude.{ℕ, cond, List, Ok, Err}
use Rattle.book.specs.declared.Refusal.TheVariants.{Damaged}
use Rattle.book.specs.Prefixes.{Walked}
use Rattle.cuts.specs.Tokens.{Base, Written}
use Rattle.cuts.specs.Cuts.{CutAnswer, answer, and_then, put_spans, spans_of}

-- a position's words, and then 8 where its walk met damage: one step of `put_walks`
unfoldable pub put_walk : Base → List ℕ → ℕ → Written → Walked → CutAnswer
put_walk base chars at w walk =
    and_then (put_spans base chars w (spans_of at walk.edges)) (λ v. cond walk.damaged (answer (Err Damaged) v) (answer (Ok tt) v))
