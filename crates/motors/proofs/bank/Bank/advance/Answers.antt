use Rattle.std.proofs.Common.{◌<◌, ◌≤◌, refl, ◌∙◌, arith, w64, SFits, rules}
use Rattle.std.proofs.lemmas.Int.{to_z-of_z}
use Rattle.drive.specs.Axes.{axes}
use Rattle.drive.proofs.Indices.{axes_is, index_of}
use Rattle.drive.proofs.Filling.{filled_none}
use Rattle.motors.specs.Banks.{absent_motor}
use Rattle.motors.proofs.Lifts.{filled_all, written_more, motor_next, next_made}
use Rattle.motors.proofs.bank.Bank.advance.Goals as goal

pub loop-axis-init : goal.loop-axis-init
loop-axis-init g c = (filled_none _ _ _ c.args.self.now.full, λ k h. refl)

pub loop-axis-preserved : goal.loop-axis-preserved
loop-axis-preserved g c =
    let r = g.A.Moves.rule in
    let b = c.args.self.now in
    let readings = c.args.readings.now in
    let ms = c.loop-axis.self.motors in
    let inv = c.loop-axis.invariant in
    let k = c.loop-axis.axis-index in
    let h : k < axes = omega (arith, axes_is) in
    let f : SFits w64 c.reading.result = search rules in
    let at = index_of _ _ h in
    let at_i = c.index.ensures.value ∙ at in
    let made = simp to_z-of_z at c.moved.ensures in
    written_more (motor_next r b readings c.args.health) (absent_motor r) b.motors ms k _ _ h at_i inv
    (made ∙ next_made r b readings c.args.health ms k _ _ _ _ _ c.loop-axis.self.full h at_i at (inv.1 k (omega arith)) c.reading.ensures c.is_up.ensures)

pub returns : goal.returns
returns g c =
    let r = g.A.Moves.rule in
    let b = c.args.self.now in
    let all : axes ≤ c.loop-axis.axis-index = omega (arith, axes_is) in
    filled_all (motor_next r b c.args.readings.now c.args.health) (absent_motor r) c.loop-axis.self _ all c.loop-axis.invariant.0
