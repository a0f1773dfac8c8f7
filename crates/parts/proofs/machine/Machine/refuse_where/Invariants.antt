use Rattle.std.proofs.Common.{◌≡◌, drop}
use Rattle.drive.specs.Axes.{in_order}
use Rattle.command.specs.Requests.{batch_on}
use Rattle.model.specs.Controller.{Condition, barred}
use Rattle.parts.specs.Conditions.{FailsBy, RefusesBy}
use Rattle.parts.specs.Views.{machine_view}
use Rattle.parts.proofs.machine.Machine.refuse_where.Given as goal

abbrev pub invariant-loop-axis : goal.invariant-loop-axis
invariant-loop-axis g l =
    (c : Condition) → FailsBy (goal.F-post g l.fails) c → RefusesBy (goal.G-post g l.refusal) c →
    let left = barred (machine_view g.D.Drive.state l.self) (batch_on l.request) c in
    left (drop l.axis-index in_order) ≡ left in_order
