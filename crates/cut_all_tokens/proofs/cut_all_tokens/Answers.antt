-- `cut_all_tokens::cut_all_tokens` meets its contract. The loop's invariant is `Positioned`. A turn and each return is a law of `Positions`, over what `words_at` ensures.
-- Assumes nothing.
use Rattle.std.specs.Prelude.{Err}
use Rattle.std.proofs.Common.{rules}
use Prim.Native.Nat.{ℕ}
use mathlib.Core.List.{List}
use mathlib.Core.Path.{◌≡◌}
use Rattle.cut_all_tokens.proofs.Positions.{begins, ends_here, ends_stopped, goes_behind}
use Rattle.cut_all_tokens.proofs.cut_all_tokens.Goals as goal
use Rattle.cut_all_tokens.proofs.cut_all_tokens.Goals.{After-from_residual, After-words_at}

-- the token area after the walk from a position
abbrev area : goal.After-words_at → List ℕ
area c = c.words_at.new.tokens

pub loop-at-init : goal.loop-at-init
loop-at-init c =
    begins _ _ _ _ _ _ _ _ _

pub words_at-requires : goal.words_at-requires
words_at-requires c = let block = c.requires.n_in_bounds in
    record { at_lt_n = (c.loop-at-test.true, block.0, block.1, block.2, block.3) }

refused_as : (c : goal.After-from_residual) → c.from_residual.result ≡ Err c.in_err-count.field-0.0
refused_as c = search rules

pub returns-in_err-count : goal.returns-in_err-count
returns-in_err-count c =
    rw (refused_as c)
    (ends_stopped c.loop-at.invariant c.requires.n_in_bounds.0 c.loop-at-test.true c.words_at.result (area (goal.at.returns-in_err-count c).After-words_at)
    c.words_at.ensures
    c.in_err-count.was)

pub loop-at-preserved : goal.loop-at-preserved
loop-at-preserved c =
    goes_behind c.loop-at.invariant c.requires.n_in_bounds.0 c.loop-at-test.true c.words_at.result (area (goal.at.loop-at-preserved c).After-words_at) c.words_at.ensures
    c.in_ok-count.was
    c.words_at.auto.tokens

pub returns : goal.returns
returns c =
    ends_here c.loop-at.invariant c.requires.n_in_bounds.0 c.loop-at-test.false
