use Rattle.std.proofs.Common.{Some, sym, ap, ◌∙◌, arith}
use Rattle.drive.specs.Axes.{in_order}
use Rattle.command.specs.Requests.{batch_on}
use Rattle.parts.specs.Views.{machine_view}
use Rattle.parts.proofs.Barring.{axis_fails, axis_passes, placed_fails, unplaced_passes, axes_pass}
use Rattle.parts.proofs.machine.Machine.refuse_where.Goals as goal
use Rattle.parts.proofs.machine.Machine.refuse_where.Goals.{in-Some+else-fails, in_default}

pub returns-then-fails : goal.returns-then-fails
returns-then-fails g c = λ cond fails refuses.
    let m = machine_view g.D.Drive.state c.args.self.now in
    let on = batch_on c.args.request.now in
    sym (c.loop-axis.invariant cond fails refuses)
    ∙ axis_fails m on cond in_order c.loop-axis.axis-index _ (omega arith) (placed_fails m on cond _ _ _ _ c.in-Some.ensures c.post.ensures (fails _ _ _ c.if-fails.ensures))
    ∙ ap Some (sym (refuses _ _ c.refusal.ensures))

pub loop-axis-preserved : goal.loop-axis-preserved
loop-axis-preserved g c = λ cond fails refuses.
    let m = machine_view g.D.Drive.state c.args.self.now in
    let on = batch_on c.args.request.now in
    axis_passes m on cond in_order c.loop-axis.axis-index _ (omega arith)
    (elim c.match-batch.branch [
      | in-Some+else-fails w ↦ placed_fails m on cond _ _ _ _ w.in-Some.ensures w.post.ensures (fails _ _ _ w.if-fails.ensures)
      | in_default w ↦ unplaced_passes m on cond _ w.in_default.ensures
    ])
    ∙ c.loop-axis.invariant cond fails refuses

pub returns : goal.returns
returns g c = λ cond fails refuses.
    sym (c.loop-axis.invariant cond fails refuses) ∙ axes_pass _ _ cond in_order c.loop-axis.axis-index (omega arith)
