-- `BestInSentences`, `FixedInSentences` and `ShortestInSentences`: each block of a sentence is a list of scalar values no longer than the sentence.
-- A block gains one character at a time, and each character of a text is a scalar value of one byte or more.
-- Assumes nothing.
use mathlib.Core.Path.{◌≡◌, refl}
use mathlib.Core.Bool.{Bool, true, false, beq}
use mathlib.Core.List.Memᴰ
use mathlib.Core.List.{List, [], ◌∷◌, Memᴰ}
use mathlib.Core.Logic.{⊎_elim}
use mathlib.Core.Option.{some}
use Prim.Native.Nat.{ℕ, suc, ◌≤◌}
use native.Mathlib.Omega.{arith}
use lib.ListN.{length}
use Rattle.utf8.specs.Encoding.{Scalar, Scalars}
use Rattle.utf8.specs.Text.{chars_of}
use Rattle.utf8.proofs.Texts.{texts_only_of_encodings, no_more_than_bytes}
use Rattle.book.specs.Returns.{longest_text}
use Rattle.cuts.specs.Blocks.{Block, onto, blocks_of}
use Rattle.built_cuts.specs.Claims.{BestInSentences, FixedInSentences, ShortestInSentences}
use Rattle.built_cuts.proofs.Routes.{best_in_built_books, shortest_in_built_books}
use Rattle.built_cuts.proofs.Ties.{fixed_in_built_books}

-- ---- its blocks

-- a block's characters are scalar values, and at most so many
record Fits (n : ℕ) (block : Block) : Type 0 where
  scalars : Scalars block.chars
  short : length block.chars ≤ n

abbrev EachFits : ℕ → List Block → Type 0
EachFits n blocks = (block : Block) → Memᴰ block blocks → Fits n block

fits_more : (n : ℕ) (block : Block) → Fits n block → Fits (suc n) block
fits_more n block fits = record { scalars = fits.scalars; short = omega (arith, fits.short) }

-- one more character
onto_fits : (n c : ℕ) (m : Bool) (blocks : List Block) → Scalar c → EachFits n blocks → EachFits (suc n) (onto m c blocks)
onto_fits n c m [] s each block k = rw (Memᴰ.eq_of_singleton k) (record { scalars = (s, tt); short = omega arith })
onto_fits n c m (first ∷ blocks) s each block k = by (beq m first.matched) k
  where
    by : (same : Bool)
        → Memᴰ block (elim same [
          | true ↦ record { matched = m; chars = c ∷ first.chars } ∷ blocks
          | false ↦ record { matched = m; chars = c ∷ [] } ∷ first ∷ blocks
        ])
        → Fits (suc n) block
    by true k =
        let fits = each first (Memᴰ.head refl) in
        ⊎_elim
        (λ e. rw e (record { scalars = (s, fits.scalars); short = omega (arith, fits.short) }))
        (λ later. fits_more n block (each block (Memᴰ.tail later)))
        (Memᴰ.cases_cons k)
    by false k = ⊎_elim (λ e. rw e (record { scalars = (s, tt); short = omega arith })) (λ later. fits_more n block (each block later)) (Memᴰ.cases_cons k)

blocks_fit : (class : ℕ → Bool) (cs : List ℕ) → Scalars cs → EachFits (length cs) (blocks_of class cs)
unfolding blocks_of
blocks_fit class [] s block k = absurd (Memᴰ.not-nil k)
blocks_fit class (c ∷ cs) s block k = onto_fits (length cs) c (class c) (blocks_of class cs) s.0 (blocks_fit class cs s.1) block k

-- ---- the claims

-- of a sentence that is no longer than a text may be
block_fits : (sentence cs : List ℕ) → length sentence ≤ longest_text → chars_of sentence ≡ some cs
    → (class : ℕ → Bool) → EachFits longest_text (blocks_of class cs)
block_fits sentence cs short e class block k =
    let fits = blocks_fit class cs (texts_only_of_encodings sentence cs e).0 block k in
    record { scalars = fits.scalars; short = omega (arith, fits.short, no_more_than_bytes sentence cs e) }

pub best_in_sentences : BestInSentences
best_in_sentences b ledger by counted sentence cs short e class block k =
    let fits = block_fits sentence cs short e class block k in
    best_in_built_books b ledger by counted block.chars fits.scalars fits.short

pub fixed_in_sentences : FixedInSentences
fixed_in_sentences b ledger by sentence cs short e class block k =
    let fits = block_fits sentence cs short e class block k in
    fixed_in_built_books b ledger by block.chars fits.scalars fits.short

pub shortest_in_sentences : ShortestInSentences
shortest_in_sentences b ledger by nothing sentence cs e class block k =
    let fits = blocks_fit class cs (texts_only_of_encodings sentence cs e).0 block k in
    shortest_in_built_books b ledger by nothing block.chars fits.scalars
