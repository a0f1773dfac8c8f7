use Rattle.std.proofs.Common.{◌≡◌}
use Rattle.drive.specs.Axes.{through}
use Rattle.drive.proofs.motion.halt_all.Given as goal

abbrev pub invariant-loop-axis : goal.invariant-loop-axis
invariant-loop-axis g l =
    let d = g.D.Drive in
    d.state l.drive ≡ through d.ops.halted l.axis-index (d.state l.initial.drive)
