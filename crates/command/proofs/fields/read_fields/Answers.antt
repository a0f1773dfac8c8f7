use Rattle.std.proofs.Common.{sym, rules, arith}
use Rattle.std.proofs.lemmas.Result.{err_from_is_err_and}
use Rattle.drive.proofs.Indices.{axes_is}
use Rattle.command.proofs.Fronts.{front_none}
use Rattle.command.proofs.Turns.{refused, ended, stray, comma, crowded}
use Rattle.command.proofs.fields.read_fields.Goals as goal

pub loop-axis-init : goal.loop-axis-init
loop-axis-init c = record { past = omega arith; full = sym axes_is; empty = rw axes_is; whole = front_none _ }

pub returns-in_err-slot : goal.returns-in_err-slot
returns-in_err-slot c =
    let p = err_from_is_err_and c.from_residual.result c.from_residual.ensures.1 in
    rw (p.1, p.2) (refused c.loop-axis.invariant (omega (arith, axes_is)) c.allows_point.ensures _ c.in_err-slot.ensures.value)

pub returns-in-empty : goal.returns-in-empty
returns-in-empty c =
    ended c.loop-axis.invariant (omega (arith, axes_is)) c.allows_point.ensures c.index.ensures.value _ c.in_ok-slot.ensures.value c.skip-left.ensures.at c.skip-left.ensures.bytes c.in-empty.len_below

pub returns-in_default : goal.returns-in_default
returns-in_default c =
    stray c.loop-axis.invariant (omega (arith, axes_is)) c.allows_point.ensures c.index.ensures.value _ c.in_ok-slot.ensures.value c.skip-left.ensures.at c.skip-left.ensures.bytes c.in_default.len_at_least (search rules)

pub loop-axis-preserved : goal.loop-axis-preserved
loop-axis-preserved c =
    rw (c.skip-left-in-44.ensures.at, c.skip-left-in-44.ensures.bytes) (comma c.loop-axis.invariant (omega (arith, axes_is)) c.allows_point.ensures c.index.ensures.value _ c.in_ok-slot.ensures.value c.skip-left.ensures.at c.skip-left.ensures.bytes c.in-44.len_at_least (search rules))

pub returns : goal.returns
returns c = crowded c.loop-axis.invariant (omega (arith, axes_is))
