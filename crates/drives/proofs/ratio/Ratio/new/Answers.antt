use Rattle.std.proofs.Common.{pos, ap, ◌∙◌, w64}
use Rattle.std.proofs.lemmas.Int.{to_z-of_z}
use Rattle.std.specs.Int.Signed.{le_z_yes}
use Rattle.motors.specs.Limits.{clamped}
use Rattle.drives.specs.UpTos.{is_near}
use Rattle.drives.specs.Ratio.{Steps}
use Rattle.drives.proofs.ratio.Ratio.new.Goals as goal

pub returns : goal.returns
returns g c =
    let back = ap (clamped (pos 1) (pos 1000)) (to_z-of_z w64 c.args.steps c.ranges.steps) in
    ap (λ (s : Steps). record { below = c.args.below; steps = s }) (is_near (le_z_yes tt) c.near.result c.args.steps (c.near.ensures ∙ back))
