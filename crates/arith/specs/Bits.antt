-- Single bits of a number, by quotients: whether a bit is set, and the number with a bit set. Document 01 speaks of them where a
-- parent's slot "gains bit 48 + floor(h/2^28) in its key and bit 24 + floor(h/2^25) mod 8 in its child". Below the definitions stand the
-- claims about setting a bit, each a type: `proofs/Bits.antt` proves `SetsItsBit` as `sets_its_bit`, and so on. Assumes nothing.
use Rattle.std.specs.Prelude.{◌≡◌, ◌≢◌, Bool, true, cond, ℕ, ◌+◌, ◌/◌, ◌%◌, ◌^◌, ◌≤◌, ◌<◌, eqb}

-- bit n of x, as the number 0 or 1; bit 0 is the lowest
abbrev pub bit_of : ℕ → ℕ → ℕ
bit_of x n = x / 2 ^ n % 2

-- whether bit n of x is 1
unfoldable pub has_bit : ℕ → ℕ → Bool
has_bit x n = eqb (bit_of x n) 1

-- x with bit n set: x gains 2 ^ n where the bit is 0
unfoldable pub with_bit : ℕ → ℕ → ℕ
with_bit x n = cond (has_bit x n) x (x + 2 ^ n)

-- the bit that is set is set afterwards
abbrev pub SetsItsBit : Type 0
SetsItsBit = (x n : ℕ) → has_bit (with_bit x n) n ≡ true

-- every other bit is as it was
abbrev pub KeepsOtherBits : Type 0
KeepsOtherBits = (x n m : ℕ) → m ≢ n → has_bit (with_bit x n) m ≡ has_bit x m

-- a bit that was set, whichever it is, stays set
abbrev pub KeepsSetBits : Type 0
KeepsSetBits = (x n m : ℕ) → has_bit x m ≡ true → has_bit (with_bit x n) m ≡ true

-- the k low bits are as they were, where the bit that is set lies above them: a key keeps its low 48, a child its node
abbrev pub KeepsLowBits : Type 0
KeepsLowBits = (x n k : ℕ) → k ≤ n → with_bit x n % 2 ^ k ≡ x % 2 ^ k

-- and so are all bits above the one that is set
abbrev pub KeepsHighBits : Type 0
KeepsHighBits = (x n k : ℕ) → n < k → with_bit x n / 2 ^ k ≡ x / 2 ^ k

-- no number with a bit set is 0, so no slot becomes empty
abbrev pub IsNeverZero : Type 0
IsNeverZero = (x n : ℕ) → with_bit x n ≢ 0

-- a number of w bits stays one
abbrev pub StaysWithinWidth : Type 0
StaysWithinWidth = (w x n : ℕ) → x < 2 ^ w → n < w → with_bit x n < 2 ^ w

-- setting a bit that is set changes nothing
abbrev pub ChangesNothingWhereSet : Type 0
ChangesNothingWhereSet = (x n : ℕ) → has_bit x n ≡ true → with_bit x n ≡ x
