use Rattle.std.proofs.Common.{sym, arith}
use Rattle.std.proofs.lemmas.Result.{err_from_is_err_and}
use Rattle.drive.proofs.Indices.{axes_is}
use Rattle.command.proofs.Fronts.{front_none}
use Rattle.command.proofs.Judging.{finished, refused, taken}
use Rattle.command.proofs.operands.judge_all.Goals as goal

pub loop-axis-init : goal.loop-axis-init
loop-axis-init c = record { full = sym axes_is; whole = front_none _ }

pub returns-in_err-operands : goal.returns-in_err-operands
returns-in_err-operands c =
    let p = err_from_is_err_and c.from_residual.result c.from_residual.ensures.1 in
    rw (p.1, p.2) (refused c.loop-axis.invariant (omega arith) (omega (arith, axes_is)) c.index-i.ensures.value c.units_of.ensures _ c.in_err-operands.ensures)

pub loop-axis-preserved : goal.loop-axis-preserved
loop-axis-preserved c =
    taken c.loop-axis.invariant (omega arith) (omega (arith, axes_is)) c.index-i.ensures.value c.units_of.ensures _ c.in_ok-operands.ensures

pub returns : goal.returns
returns c = finished c.loop-axis.invariant (omega arith) (omega (arith, axes_is))
