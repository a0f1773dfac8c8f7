use Rattle.std.proofs.Common.{pos, ◌+ℤ◌, ◌-ℤ◌, ◌≤ℤ◌, ap, ◌∙◌, arith, w64, SFits, rules}
use borrow.Author.Differences.{ints}
use Rattle.std.proofs.lemmas.Int.{to_z-of_z}
use Rattle.motors.specs.Motors.{near}
use Rattle.motors.specs.declared.ranged.Ranged.{Ranged}
use Rattle.motors.proofs.Bounds.{ranged_back}
use Rattle.drives.specs.Bounds.{rate_back}
use Rattle.drives.specs.Paces.{toward_clamped}
use Rattle.drives.proofs.counting.RateMoves.moved.Goals as goal

pub returns : goal.returns
returns c =
    let m = c.args.motor in
    let p = m.position.ok in
    let r = m.own.ok in
    let low : SFits w64 (m.position.value -ℤ m.own.value) = omega (arith, ints) in
    let high : SFits w64 (m.position.value +ℤ m.own.value) = omega (arith, ints) in
    let forward : pos 0 ≤ℤ m.own.value = omega (arith, ints) in
    let f : SFits w64 c.clamp-next.result = search rules in
    let next = simp (ranged_back, rate_back, to_z-of_z) at c.clamp-next.ensures.value in
    let made = simp to_z-of_z at c.near.ensures in
    ap (λ (q : Ranged). record { position = q; target = m.target; own = m.own }) (made ∙ ap near (next ∙ toward_clamped _ _ _ forward))
