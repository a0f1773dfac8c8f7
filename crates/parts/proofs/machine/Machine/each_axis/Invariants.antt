use Rattle.std.proofs.Common.{◌≡◌, length}
use Rattle.drive.specs.Axes.{axes}
use Rattle.parts.specs.Views.{machine_view, Does}
use Rattle.parts.proofs.Loops.{Done}
use Rattle.parts.proofs.machine.Machine.each_axis.Given as goal

abbrev pub invariant-loop-axis : goal.invariant-loop-axis
invariant-loop-axis g l =
    let state = g.D.Drive.state in
    ((f : _) → Does state (goal.F-post g l.act) f → Done f (machine_view state l.initial.self) l.axis-index (machine_view state l.self) l.told)
    × (length l.told ≡ axes)
