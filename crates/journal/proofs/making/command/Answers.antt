use Rattle.std.proofs.Common.{◌∙◌, ap₂, arith}
use Rattle.model.specs.Controller as C
use Rattle.controller.specs.Views.{live_view}
use Rattle.model.specs.Seen.{of_command}
use Rattle.controller.proofs.Told.{command_spoken, told_all}
use Rattle.journal.proofs.Untaken.{relent}
use Rattle.journal.proofs.making.command.Goals as goal

pub returns : goal.returns
returns g c =
    let o = g.D.Drive.ops in
    let l = live_view g.D.Drive.state c.args.live in
    let text = c.args.text.now in
    let sheet = c.as_mut_slice.result.now in
    let block = c.as_mut_slice-2.result.now in
    let whole = ap₂ (of_command c.command-reply.result) (relent c.args.sheet.len _ _ (omega arith)) (relent c.args.answer.len _ _ (omega arith)) in
    told_all _ (command_spoken o l c.args.port text sheet block) c.command-reply.ensures.does (c.told_by.ensures ∙ whole)
    ∙ ap₂ (λ x y. C.call o (C.live l) (C.command c.args.port text x y)) c.as_mut_slice.ensures.value c.as_mut_slice-2.ensures.value
