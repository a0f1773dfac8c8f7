-- Each rule leaves a position between where it was and the target. Assumes nothing.
use Rattle.std.specs.Prelude.{◌≡◌, Bool, true, false, ◌&&◌, ℤ, pos, ◌+ℤ◌, ◌-ℤ◌, ◌≤ℤ◌, int_le, refl}
use Rattle.std.proofs.Common.{sym, subst, inl, inr, arith}
use Rattle.std.specs.Int.{int_min, int_max}
use Rattle.std.proofs.lemmas.Bool.{and_parts}
use Rattle.std.proofs.lemmas.Int.{clamps, by_lt_z, ints}
use Rattle.drive.specs.Range.{Within, Between}
use Rattle.drive.proofs.Orders.{within_true}
use Rattle.motors.specs.Limits.{clamped}
use Rattle.motors.specs.Rules.{Lawful}
use Rattle.drives.specs.Counting.{toward, counted}
use Rattle.drives.specs.Reporting.{on_way, settled, reported}
use Rattle.drives.specs.declared.reporting.Link.{Link}
use Rattle.motors.specs.declared.motor.Motor.{Motor}
use Rattle.motors.specs.Laws.{near_value, between_range}

-- as the code has it
pub toward_clamped : (p t r : ℤ) → pos 0 ≤ℤ r → clamped (p -ℤ r) (p +ℤ r) t ≡ toward p t r
unfolding toward
toward_clamped p t r h =
    by_lt_z t p
    (λ l. let e : int_le p t ≡ false = grind (arith, ints) in rw e (omega (arith, ints, clamps)))
    (λ l. let e : int_le p t ≡ true = grind (arith, ints) in rw e (omega (arith, ints, clamps)))

toward_between : (p t r : ℤ) → pos 0 ≤ℤ r → Between p t (toward p t r)
toward_between p t r h =
    let e = toward_clamped p t r h in
    by_lt_z t p
    (λ l. inr (omega (arith, ints, clamps), omega (arith, ints, clamps)))
    (λ l. inl (omega (arith, ints, clamps), omega (arith, ints, clamps)))

pub counted_lawful : Lawful counted
counted_lawful = record {
  target = λ m reading up. refl;
  position = λ m reading up.
      let b = toward_between m.position.value m.target.value m.own.value (let h = m.own.ok in omega (arith, ints)) in
      subst (Between m.position.value m.target.value) (sym (near_value _ (between_range m.position m.target _ b))) b;
}

here_between : (p t : ℤ) → Between p t p
here_between p t = by_lt_z t p (λ l. inr (omega (arith, ints), omega (arith, ints))) (λ l. inl (omega (arith, ints), omega (arith, ints)))

on_way_between : (p t z : ℤ) → Within (int_min p t) (int_max p t) z → Between p t z
on_way_between p t z h =
    by_lt_z t p
    (λ l. inr (omega (arith, ints, clamps), omega (arith, ints, clamps)))
    (λ l. inl (omega (arith, ints, clamps), omega (arith, ints, clamps)))

settled_target : (m : Motor Link) (z : ℤ) (b : Bool) → (settled b m z).target ≡ m.target
settled_target m z true = refl
settled_target m z false = refl

settled_between : (m : Motor Link) (z : ℤ) (b : Bool) → (b ≡ true → Between m.position.value m.target.value z) → Between m.position.value m.target.value (settled b m z).position.value
settled_between m z true h =
    subst (Between m.position.value m.target.value) (sym (near_value z (between_range m.position m.target z (h refl)))) (h refl)
settled_between m z false h = here_between m.position.value m.target.value

pub reported_lawful : Lawful reported
reported_lawful = record {
  target = λ m reading up. settled_target m reading (up && on_way m reading);
  position = λ m reading up. settled_between m reading (up && on_way m reading) (λ e. on_way_between _ _ reading (within_true _ _ reading (and_parts up (on_way m reading) e).1));
}
