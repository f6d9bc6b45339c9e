-- A frame as a line of bytes: document 01, "Examples by book", "Program `cutlines`".
-- Assumes nothing.
use Rattle.std.specs.Prelude.{ℕ, ◌+◌, ◌-◌, ◌*◌, Bool, cond, ◌&&◌, List, [], ◌∷◌, eqb, leb, length, Option, Some, None}
use Rattle.frames.specs.declared.CutKind.TheVariants.{Plain, All, Search}
use Rattle.frames.specs.declared.Frame.{Frame as FrameRead}
use Rattle.frames.specs.declared.Kind.{Kind}
use Rattle.frames.specs.declared.Kind.TheVariants.{Load, Cut}

-- ---- a frame: "one frame of hexadecimal (digits of either case) a line"

abbrev pub between : ℕ → ℕ → ℕ → Bool
between first last b = leb first b && leb b last

-- the value of a digit, 0 to 9, A to F or a to f; any other byte has none
unfoldable pub value_of : ℕ → Option ℕ
value_of b =
    cond (between 0x30 0x39 b) (Some (b - 0x30))
    (cond (between 0x41 0x46 b) (Some (b - 0x41 + 10))
    (cond (between 0x61 0x66 b) (Some (b - 0x61 + 10)) None))

-- two digits are a byte; where one of them is none there is none
abbrev pub byte_by : Option ℕ → Option ℕ → Option ℕ
byte_by (Some high) (Some low) = Some (high * 16 + low)
byte_by (Some high) None = None
byte_by None low = None

unfoldable pub byte_of : ℕ → ℕ → Option ℕ
byte_of high low = byte_by (value_of high) (value_of low)

abbrev pub with_byte : Option ℕ → Option (List ℕ) → Option (List ℕ)
with_byte (Some b) (Some bs) = Some (b ∷ bs)
with_byte (Some b) None = None
with_byte None bs = None

-- the bytes of a line, if it is digits and no digit is left over
unfoldable pub bytes_of : List ℕ → Option (List ℕ)
bytes_of [] = Some []
bytes_of (high ∷ []) = None
bytes_of (high ∷ low ∷ rest) = with_byte (byte_of high low) (bytes_of rest)

-- the same from what a decoder answers, and what it has written
unfoldable pub decoded : Option (Unit {0}) → List ℕ → Option (List ℕ)
decoded (Some done) bytes = Some bytes
decoded None bytes = None

-- "kind (two digits: 01 load, 02 cut, 03 all, 04 search)"
unfoldable pub kind_of : ℕ → Option Kind
kind_of b =
    cond (eqb b 1) (Some Load) (cond (eqb b 2) (Some (Cut Plain)) (cond (eqb b 3) (Some (Cut All)) (cond (eqb b 4) (Some (Cut Search)) None)))

-- what is asked, and the bytes after the kind
pub record Frame : Type 0 where
  pub kind : Kind
  pub text : List ℕ

abbrev pub frame : Kind → List ℕ → Frame
frame kind text = record { kind = kind; text = text }

-- "then at most 1,024 bytes"
abbrev pub longest : ℕ
longest = 1024

abbrev pub of_kind : Option Kind → List ℕ → Option Frame
of_kind (Some kind) text = Some (frame kind text)
of_kind None text = None

abbrev pub framed : Option (List ℕ) → Option Frame
framed (Some (kind ∷ text)) = cond (leb (length text) longest) (of_kind (kind_of kind) text) None
framed (Some []) = None
framed None = None

unfoldable pub frame_of : List ℕ → Option Frame
frame_of line = framed (bytes_of line)

-- the same from what a reader answers
abbrev pub read : Option FrameRead → Option Frame
read (Some f) = Some (frame f.kind f.text.now)
read None = None
