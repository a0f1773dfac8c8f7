use Rattle.std.proofs.Common.{◌∙◌, w64, SFits, rules}
use Rattle.std.proofs.lemmas.Int.{to_z-of_z}
use Rattle.motors.specs.Motors.{near}
use Rattle.motors.proofs.Bounds.{same_ranged}
use Rattle.motors.proofs.ranged.Ranged.near.Goals as goal

pub returns : goal.returns
unfolding near
returns c =
    let f : SFits w64 c.clamp.result = search rules in
    let g : SFits w64 c.args.value = c.ranges.value in
    same_ranged _ (near c.args.value) (to_z-of_z _ _ f ∙ (simp to_z-of_z at c.clamp.ensures.value))
