-- 0 is the number of what is done, and of no refusal.
-- Assumes nothing.
use mathlib.Core.Path.{◌≡◌, refl}
use mathlib.Core.Bool.{true, false}
use native.Mathlib.Omega.{arith}
use borrow.Author.Tests.{eqb-true}
use Rattle.std.specs.Prelude.{Ok, Err}
use Rattle.book.specs.declared.Refusal.{Refusal}
use Rattle.book.specs.declared.Refusal.TheVariants.{BadAreas, TooLong, Malformed, BadFrequency, TotalTooLarge, RecordsFull, SlotsFull, Damaged}
use Rattle.book.specs.declared.Refusal.TheVariants.{WorkTooShort, EdgesFull, TokensFull}
use Rattle.book.specs.Returns.{Outcome, number_of, is_done}

pub done_only : (o : Outcome) → number_of o ≡ 0 → o ≡ Ok tt
done_only (Ok done) e = refl
done_only (Err BadAreas) e = absurd (omega arith)
done_only (Err TooLong) e = absurd (omega arith)
done_only (Err Malformed) e = absurd (omega arith)
done_only (Err BadFrequency) e = absurd (omega arith)
done_only (Err TotalTooLarge) e = absurd (omega arith)
done_only (Err RecordsFull) e = absurd (omega arith)
done_only (Err SlotsFull) e = absurd (omega arith)
done_only (Err Damaged) e = absurd (omega arith)
done_only (Err WorkTooShort) e = absurd (omega arith)
done_only (Err EdgesFull) e = absurd (omega arith)
done_only (Err TokensFull) e = absurd (omega arith)

pub is_done_only : (o : Outcome) → is_done o ≡ true → o ≡ Ok tt
is_done_only o e = done_only o (eqb-true (number_of o) 0 e)

pub not_done : (r : Refusal) → is_done (Err r) ≡ false
not_done BadAreas = refl
not_done TooLong = refl
not_done Malformed = refl
not_done BadFrequency = refl
not_done TotalTooLarge = refl
not_done RecordsFull = refl
not_done SlotsFull = refl
not_done Damaged = refl
not_done WorkTooShort = refl
not_done EdgesFull = refl
not_done TokensFull = refl
