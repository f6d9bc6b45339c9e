-- `sentence::begin` meets its contract: each `return` is the case of `cut_with` that the tests before it say; that of a text too long Rattle finds by
-- `too_long`, which the function names. Assumes nothing.
use Rattle.std.specs.Prelude.{Err}
use Rattle.std.proofs.Common.{rules}
use Rattle.book.specs.declared.Refusal.TheVariants.{Malformed}
use Prim.Native.Nat.{ℕ, ◌+◌, ◌/◌}
use mathlib.Core.Bool.{Bool, true}
use mathlib.Core.Path.{◌≡◌, sym, ◌∙◌}
use native.Mathlib.Omega.{arith}
use Rattle.book.proofs.Areas.{slots_whole, slots_most}
use Rattle.book.specs.declared.Head.{Head}
use Rattle.book.specs.Areas.{areas_allowed}
use Rattle.book.specs.Returns.{head_damaged}
use Rattle.sentence.proofs.Beginning.{sizes_refused, tokens_refused, malformed, work_too_short, head_damaged_lem, none_refused}
use Rattle.sentence.proofs.begin.Goals as goal
use Rattle.sentence.proofs.begin.Goals.{After-from_residual}

-- slots that are allowed have as many keys as links
as_many : (head : Head) (roots slots records logarithms : ℕ) → areas_allowed roots slots records logarithms ≡ true → {damaged : Bool}
    → head_damaged head records (slots / 2) ≡ damaged → head_damaged head records ((slots + 1) / 2) ≡ damaged
as_many head roots slots records logarithms areas e =
    let even = slots_whole roots slots records logarithms areas in
    let half : (slots + 1) / 2 ≡ slots / 2 = omega arith in
    rw half e

pub returns-then-not-is_allowed : goal.returns-then-not-is_allowed
returns-then-not-is_allowed c = λ area long. sizes_refused _ _ area _ _ (sym c.is_allowed.ensures ∙ c.if-not-is_allowed.true)

pub returns-then-tokens-ne0 : goal.returns-then-tokens-ne0
returns-then-tokens-ne0 c =
    λ area long. tokens_refused _ _ area _ _ (sym c.is_allowed.ensures ∙ c.if-not-is_allowed.false) (rw long c.if-tokens-ne0.true)

refused : (c : goal.After-from_residual) → (c.char_count.result ≡ Err (record {})) × (c.from_residual.result ≡ Err Malformed)
refused c = search rules

pub returns-in_err-count : goal.returns-in_err-count
returns-in_err-count c =
    λ area long. rw (refused c).1 (malformed _ _ area _ _ (sym c.is_allowed.ensures ∙ c.if-not-is_allowed.false) (rw long c.if-tokens-ne0.false)
    (omega arith)
    (sym (refused c).0 ∙ c.char_count.ensures))

pub returns-then-work-count : goal.returns-then-work-count
returns-then-work-count c =
    λ area long. work_too_short _ _ area _ _ (sym c.is_allowed.ensures ∙ c.if-not-is_allowed.false) (rw long c.if-tokens-ne0.false)
    (omega arith) _
    (sym c.in_ok-count.was ∙ c.char_count.ensures) (omega (arith, c.if-work-count))

pub is_head_damaged-requires : goal.is_head_damaged-requires
is_head_damaged-requires c =
    slots_most _ _ _ _ (sym c.is_allowed.ensures ∙ c.if-not-is_allowed.false)

pub returns-then-is_head_damaged : goal.returns-then-is_head_damaged
returns-then-is_head_damaged c =
    let areas = sym c.is_allowed.ensures ∙ c.if-not-is_allowed.false in
    λ area long. head_damaged_lem _ _ area _ _ areas (rw long c.if-tokens-ne0.false) (omega arith) _ (sym c.in_ok-count.was ∙ c.char_count.ensures)
    (omega (arith, c.if-work-count)) (as_many _ _ _ _ _ areas (sym c.is_head_damaged.ensures ∙ c.if-is_head_damaged.true))

pub returns : goal.returns
returns c =
    let areas = sym c.is_allowed.ensures ∙ c.if-not-is_allowed.false in
    λ area long. none_refused _ _ area _ areas (rw long c.if-tokens-ne0.false) (omega arith) _ (sym c.in_ok-count.was ∙ c.char_count.ensures)
    (omega (arith, c.if-work-count)) (as_many _ _ _ _ _ areas (sym c.is_head_damaged.ensures ∙ c.if-is_head_damaged.false))
