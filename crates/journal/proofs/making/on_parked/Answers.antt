use Rattle.std.proofs.Common.{sym, ap, ◌∙◌}
use Rattle.model.specs.Controller as C
use Rattle.controller.specs.Views.{parked_view}
use Rattle.journal.specs.Views.{call_view}
use Rattle.controller.proofs.Told.{set_settled, settled_all}
use Rattle.journal.proofs.Untaken.{parked_untaken}
use Rattle.journal.proofs.making.on_parked.Goals as goal

pub returns-in-Set : goal.returns-in-Set
returns-in-Set g c =
    let o = g.D.Drive.ops in
    let p = parked_view g.D.Drive.state c.args.parked in
    let text = c.as_slice.result.now in
    settled_all _ (set_settled o p text) c.set.ensures.does c.set.ensures.says c.settled_by-outcome.ensures
    ∙ ap (λ x. C.call o (C.parked p) (C.set_call x)) c.as_slice.ensures.value
    ∙ ap (λ k. C.call o (C.parked p) (call_view k)) (sym c.in-Set.is)

pub returns-in-Arm : goal.returns-in-Arm
unfolding C.call
returns-in-Arm g c =
    let p = parked_view g.D.Drive.state c.args.parked in
    ap (λ x. C.after (C.live x) C.done) c.arm.ensures ∙ ap (λ k. C.call g.D.Drive.ops (C.parked p) (call_view k)) (sym c.in-Arm.is)

pub returns : goal.returns
returns g c = parked_untaken g.D.Drive.ops (parked_view g.D.Drive.state c.args.parked) c.args.call c.in_default.not-Set c.in_default.not-Arm
