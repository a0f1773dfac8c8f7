use Rattle.std.proofs.Common.{sym, refl, ◌∙◌}
use Rattle.drive.proofs.Indices.{axes_is}
use Rattle.model.specs.declared.refusal.Refusal.TheVariants.{Sheet}
use Rattle.controller.specs.Views.{live_view}
use Rattle.controller.proofs.Refusing.{refused_by}
use Rattle.controller.proofs.Calls.{took_by, step_taken, step_short, step_unread}
use Rattle.controller.proofs.states.Live.step.Goals as goal

pub returns-in_err-sheet : goal.returns-in_err-sheet
returns-in_err-sheet g c =
    let l = live_view g.D.Drive.state c.args.self.now in
    let none = c.in_err-sheet.ensures.ok_part in
    let short = rw none at c.as_mut_array.ensures.cases in
    took_by (step_short g.D.Drive.ops l c.args.sheet.now c.args.readings.now c.args.health (λ e. short (e ∙ axes_is)))
    (record { now = refl; says = refused_by _ _ _ Sheet c.in_err-sheet.ensures.value none c.from_residual.ensures; rows = refl })

pub returns-then-readings-ne-AXES : goal.returns-then-readings-ne-AXES
returns-then-readings-ne-AXES g c =
    let l = live_view g.D.Drive.state c.args.self.now in
    let sheet = rw c.in_ok-sheet.ensures.ok_part at c.as_mut_array.ensures.cases in
    took_by (step_unread g.D.Drive.ops l c.args.sheet.now c.args.readings.now c.args.health (sheet.long ∙ sym axes_is) (λ e. c.if-readings-ne-AXES.true (e ∙ axes_is)))
    (record { now = refl; says = refl; rows = sheet.same })

pub returns : goal.returns
returns g c =
    let l = live_view g.D.Drive.state c.args.self.now in
    let sheet = rw c.in_ok-sheet.ensures.ok_part at c.as_mut_array.ensures.cases in
    took_by
    (c.turn.ensures ∙ step_taken g.D.Drive.ops l c.args.sheet.now c.args.readings.now c.args.health (sheet.long ∙ sym axes_is) (c.if-readings-ne-AXES.false ∙ sym axes_is))
    (record { now = refl; says = refl; rows = refl })
