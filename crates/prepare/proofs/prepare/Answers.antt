-- `prepare::prepare` meets its contract: the areas are as they were, or each is filled by its call; and so in numbers. Assumes nothing.
use lib.Ieee.{of_bits, of_int}
use Rattle.score.specs.Scores.{float_of}
use Rattle.book.proofs.Numbers.{prepared_in_numbers}
use Rattle.prepare.proofs.Prepared.{refused, ready}
use Rattle.prepare.proofs.prepare.Goals as goal

pub returns-then-not-is_allowed : goal.returns-then-not-is_allowed
returns-then-not-is_allowed c = let all = prepared_in_numbers (refused _ _ _ _ _ c.is_allowed.ensures c.if-not-is_allowed.true) in record { logarithms_value = all.0; result_value = all.1 }

-- ---- the areas are sized, and each is filled

pub returns : goal.returns
unfolding of_bits of_int float_of
returns c = let all = prepared_in_numbers
    (ready _ _ _ _ _ c.is_allowed.ensures _ _ _ _ c.if-not-is_allowed.false
    (c.fill.ensures.after (λ y e. e)) (c.fill-2.ensures.after (λ y e. e)) (c.fill-3.ensures.after (λ y e. e)) (c.fill-4.ensures.after (λ y e. e))) in record { logarithms_value = all.0; result_value = all.1 }
