use Rattle.std.proofs.Common.{arith}
use Rattle.model.specs.Controller as C
use Rattle.controller.specs.Views.{live_view}
use Rattle.controller.proofs.Told.{sample_mute}
use Rattle.journal.proofs.Untaken.{rowed_whole}
use Rattle.journal.proofs.making.sample.Goals as goal

pub returns : goal.returns
returns g c =
    let o = g.D.Drive.ops in
    let l = live_view g.D.Drive.state c.args.live in
    rowed_whole (λ x. C.call o (C.live l) (C.sample c.args.word x)) c.args.sheet.len _ c.as_mut_slice.ensures.value (sample_mute o l c.args.word _) c.sample-reply.ensures (omega arith) c.rowed_by.ensures
