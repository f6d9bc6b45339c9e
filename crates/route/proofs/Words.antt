-- `NoLoneStepBesideWords`: the first word is taken before the others are looked at, and from then on a word is given up for another one alone.
-- Assumes nothing.
use Prim.Native.Nat.{ℕ, ◌+◌}
use mathlib.Core.Bool.{Bool, true, false}
use mathlib.Core.List.{List, [], ◌∷◌, Memᴰ}
use mathlib.Core.Path.{◌≡◌, refl, ap}
use lib.Ieee.{Float}
use Rattle.book.specs.Prefixes.{Edge}
use Rattle.route.specs.Route.{Best, Choice, no_edge, best_edge, beats, choose, settled, route_of}
use Rattle.route.specs.Claims.{step_by, NoLoneStepBesideWords}

module _ (log_total : Float) (rest : List Best) (next : ℕ) where
  abbrev OneOf : List Edge → Choice → Type 0
  OneOf words c = (word : Edge) × Memᴰ word words × (c ≡ best_edge (step_by log_total rest next word))

  -- past the second of the words
  skip : {held e : Edge} {others : List Edge} {word : Edge} → Memᴰ word (held ∷ others) → Memᴰ word (held ∷ e ∷ others)
  skip (Memᴰ.head is) = Memᴰ.head is
  skip (Memᴰ.tail m) = Memᴰ.tail (Memᴰ.tail m)

  stays_word : (held : Edge) (others : List Edge) → OneOf (held ∷ others) (choose log_total rest next others (best_edge (step_by log_total rest next held)))
  unfolding choose
  stays_word held [] = (held, Memᴰ.head refl, refl)
  stays_word held (e ∷ others) =
      go (beats (step_by log_total rest next e) (step_by log_total rest next held)) refl (stays_word e others) (stays_word held others)
    where
      go : (t : Bool) → beats (step_by log_total rest next e) (step_by log_total rest next held) ≡ t
          → OneOf (e ∷ others) (choose log_total rest next others (best_edge (step_by log_total rest next e)))
          → OneOf (held ∷ others) (choose log_total rest next others (best_edge (step_by log_total rest next held)))
          → OneOf (held ∷ e ∷ others) (choose log_total rest next (e ∷ others) (best_edge (step_by log_total rest next held)))
      go true wins one other = (one.0, Memᴰ.tail one.1, rw wins one.2)
      go false loses one other = (other.0, skip other.1, rw loses other.2)

pub no_lone_step_beside_words : NoLoneStepBesideWords
unfolding route_of choose
no_lone_step_beside_words log_total at first others rows =
    let rest = route_of log_total (at + 1) rows in
    let one = stays_word log_total rest (at + 1) first others in
    (one.0, one.1, ap (settled log_total rest (at + 1)) one.2)
