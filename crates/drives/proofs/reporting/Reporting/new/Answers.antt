use Rattle.std.proofs.Common.{◌<◌, pos, sym, ◌∙◌, arith, rules}
use Rattle.std.proofs.lemmas.Int.{to_z-of_z}
use Rattle.drive.proofs.Indices.{axes_is, each_all}
use Rattle.motors.specs.Banks.{absent_motor}
use Rattle.motors.proofs.Lifts.{same_bank}
use Rattle.drives.specs.Reporting.{reported, reporting_start}
use Rattle.drives.proofs.reporting.Reporting.new.Goals as goal

pub returns : goal.returns
returns c =
    let made = c.map-motors.ensures.items in
    let none = absent_motor reported in
    same_bank _ _ (c.new.ensures ∙ each_all (reporting_start c.args.starts.now) _ none (made.long ∙ sym axes_is) (λ k h. let lt : k < 8 = omega (arith, axes_is) in let t = made.at k (pos 0) none lt in search (rules, to_z-of_z)))
