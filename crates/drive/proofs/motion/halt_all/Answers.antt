use Rattle.std.proofs.Common.{◌≡◌, ◌<◌, sym, ap, ◌∙◌, subst, arith}
use Rattle.drive.specs.Axes.{axes, through}
use Rattle.drive.specs.Laws.{Stopped}
use Rattle.drive.proofs.Frames.{halts_below}
use Rattle.drive.proofs.Indices.{axes_is, index_of, through_none, through_more}
use Rattle.drive.proofs.motion.halt_all.Goals as goal

pub loop-axis-init : goal.loop-axis-init
loop-axis-init g c = through_none g.D.Drive.ops.halted _

pub loop-axis-preserved : goal.loop-axis-preserved
loop-axis-preserved g c =
    let h : c.loop-axis.axis-index < axes = omega (arith, axes_is) in
    through_more g.D.Drive.ops.halted _ _ _ _ _ c.loop-axis.invariant (index_of _ _ h) c.halt.ensures

pub returns : goal.returns
returns g c =
    let o = g.D.Drive.ops in
    let s = g.D.Drive.state c.args.drive.now in
    let e : c.loop-axis.axis-index ≡ axes = omega (arith, axes_is) in
    let after = c.loop-axis.invariant ∙ ap (λ n. through o.halted n s) e in
    record { after = after; stops = subst (Stopped o s) (sym after) (λ k h. halts_below g.met.D.Drive.keeps s axes k h (omega arith)) }
