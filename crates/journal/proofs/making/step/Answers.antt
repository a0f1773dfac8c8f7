use Rattle.std.proofs.Common.{arith}
use Rattle.model.specs.Controller as C
use Rattle.controller.specs.Views.{live_view}
use Rattle.controller.proofs.Told.{step_mute}
use Rattle.journal.proofs.Untaken.{rowed_whole}
use Rattle.journal.proofs.making.step.Goals as goal

pub returns : goal.returns
returns g c =
    let o = g.D.Drive.ops in
    let l = live_view g.D.Drive.state c.args.live in
    rowed_whole (λ x. C.call o (C.live l) (C.step c.args.readings.now c.args.health x)) c.args.sheet.len _ c.as_mut_slice.ensures.value (step_mute o l c.args.readings.now c.args.health _) c.step-reply.ensures (omega arith) c.rowed_by.ensures
