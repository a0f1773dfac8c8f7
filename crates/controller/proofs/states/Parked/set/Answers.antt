use Rattle.std.proofs.Common.{ap, ◌∙◌}
use Rattle.model.specs.declared.refusal.Refusal.TheVariants.{Text}
use Rattle.model.specs.Controller.{parked, setting_by, call}
use Rattle.controller.specs.Replies.{taken}
use Rattle.controller.specs.Views.{parked_view}
use Rattle.controller.proofs.Refusing.{passed_on}
use Rattle.controller.proofs.states.Parked.set.Goals as goal

pub returns-in_err-read_setting : goal.returns-in_err-read_setting
unfolding call
returns-in_err-read_setting g c =
    let p = parked_view g.D.Drive.state c.args.self.now in
    let read = c.in_err-read_setting.ensures in
    record {
      says = passed_on _ (Text _) c.from_residual.ensures ∙ ap (λ r. taken (setting_by p r).outcome) read;
      does = ap (λ r. (setting_by p r).now) read;
    }

pub returns : goal.returns
unfolding call
returns g c =
    let p = parked_view g.D.Drive.state c.args.self.now in
    let read = c.in_ok-read_setting.ensures in
    record {
      says = ap (λ r. taken (setting_by p r).outcome) read;
      does = ap parked c.apply.ensures ∙ ap (λ r. (setting_by p r).now) read;
    }
