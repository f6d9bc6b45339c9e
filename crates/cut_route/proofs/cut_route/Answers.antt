-- `cut_route::cut_route` meets its contract. The loop's invariant is `Putting` of what the tokens bring, and each turn takes a run of route steps of one
-- ASCII letter or digit, or one
-- other step. Assumes nothing.
use Rattle.std.specs.Prelude.{Err}
use Rattle.std.proofs.Common.{rules}
use mathlib.Core.Path.{◌≡◌, ap, ◌∙◌}
use native.Mathlib.Omega.{arith}
use lib.ListN.{take}
use Rattle.route.specs.Slices.{rows_of}
use Rattle.tokens.proofs.Turns.{Turn, begins, refused, one_more, ends}
use Rattle.search_words.proofs.Rising.{rise_to}
use Rattle.cut_route.specs.Routes.{tokens_by}
use Rattle.cut_route.proofs.Modes.{none_by, turn_by}
use Rattle.cut_route.proofs.Routes.{route_from, whole_route, route_end, letters, other_character, word}
use Rattle.cut_route.proofs.cut_route.Goals as goal
use Rattle.cut_route.proofs.cut_route.Goals.{After-from_residual, Joined-y-x, then-y-x+then-is_ascii_alphanumeric, then-y-x+else-is_ascii_alphanumeric, else-y-x}

-- where the span ends, by the route's step and the first character's class
turn : (c : goal.Joined-y-x)
    → let args = c.args in
    Turn args.n (route_from (take args.n args.chars.now) args.ends.now args.n) c.loop-x.x c.if-y-x.y
turn c =
    let args = c.args in
    let forward = c.requires.forward.0 in
    let within = c.loop-x-test.true in
    elim c.if-y-x.branch [
      | then-y-x+then-is_ascii_alphanumeric w ↦ rw w.y-is (letters args.chars.now args.ends.now args.n forward c.loop-x.x within w.if-y-x.true _
          w.is_ascii_alphanumeric.ensures _ w.if-is_ascii_alphanumeric.true w.letters_end-y.ensures)
      | then-y-x+else-is_ascii_alphanumeric w ↦ rw w.y-is (other_character args.chars.now args.ends.now args.n forward c.loop-x.x within w.if-y-x.true _
          w.is_ascii_alphanumeric.ensures w.if-is_ascii_alphanumeric.false)
      | else-y-x w ↦ rw w.y-is (word args.chars.now args.ends.now args.n forward c.loop-x.x within w.if-y-x.false)
    ]

pub loop-x-init : goal.loop-x-init
loop-x-init c records logarithms = begins _ _ _ _ _ _ _

pub emit_token-requires : goal.emit_token-requires
emit_token-requires c = let t = turn (goal.at.emit_token-requires c).Joined-y-x in
    let pre = c.requires in record {
      x_le_y = (
        omega (arith, t.forward),
        omega (arith, t.inside, pre.n_in_bounds),
        omega (arith, t.inside, pre.n_in_bounds),
        omega (arith, t.inside, pre.n_in_bounds),
        omega (arith, t.inside, pre.n_in_bounds),
      );
      ends_rise = rise_to _ _ _ _ (omega (arith, t.inside)) pre.forward.1;
    }

-- ---- the places of a turn: the call that wrote, the end of its token, and the loop's head

refused_as : (c : goal.After-from_residual) → c.from_residual.result ≡ Err c.in_err-count.field-0.0
refused_as c = search rules

pub returns-in_err-count : goal.returns-in_err-count
returns-in_err-count c place route records logarithms known has_ends =
    let args = c.args in
    rw (refused_as c)
    (refused _ _ _ _ _ _ _ (c.loop-x.invariant records logarithms) (turn_by _ _ args.mode _ _ _ _ (turn (goal.at.returns-in_err-count c).Joined-y-x)) c.emit_token.result _
    (λ here placed. c.emit_token.ensures here _ records logarithms (turn (goal.at.returns-in_err-count c).Joined-y-x).inside placed)
    c.in_err-count.was
    _ (ap (tokens_by args.mode (take args.n args.chars.now) (rows_of args.starts.now args.edge_ends.now records logarithms args.n))
    (whole_route args.chars.now args.ends.now args.n route c.requires.n_in_bounds.0 has_ends)) place known)

pub loop-x-smaller : goal.loop-x-smaller
loop-x-smaller c = omega (arith, turn (goal.at.loop-x-smaller c).Joined-y-x)

pub loop-x-preserved : goal.loop-x-preserved
loop-x-preserved c records logarithms =
    let args = c.args in
    one_more _ _ _ _ _ _ _ (c.loop-x.invariant records logarithms) (turn_by _ _ args.mode _ _ _ _ (turn (goal.at.loop-x-preserved c).Joined-y-x)) c.emit_token.result _
    (λ here placed. c.emit_token.ensures here _ records logarithms (turn (goal.at.loop-x-preserved c).Joined-y-x).inside placed)
    c.in_ok-count.was
    c.emit_token.auto.tokens

pub returns : goal.returns
returns c place route records logarithms known has_ends =
    let args = c.args in
    let rows = rows_of args.starts.now args.edge_ends.now records logarithms args.n in
    let cs = take args.n args.chars.now in
    ends _ _ _ _ _ _ _ (c.loop-x.invariant records logarithms)
    (ap (tokens_by args.mode cs rows) (route_end args.chars.now args.ends.now args.n c.requires.forward.0 c.loop-x.x
    c.loop-x-test.false) ∙ none_by cs rows args.mode)
    _ (ap (tokens_by args.mode cs rows) (whole_route args.chars.now args.ends.now args.n route c.requires.n_in_bounds.0 has_ends)) place known
