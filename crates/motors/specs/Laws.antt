-- A rule for one axis, at every axis, keeps the laws of a drive. Assumes nothing.
use Rattle.std.specs.Prelude.{◌≡◌, ℕ, ◌<◌, ◌≢◌, length, ℤ, pos, slice_index_or, refl}
use Rattle.std.specs.Int.Signed.{le_z_yes}
use Rattle.std.proofs.Common.{sym, ap, ◌∙◌, subst, inl, inr, arith}
use Rattle.std.proofs.lemmas.Int.{ints}
use Rattle.std.proofs.lemmas.List.{get_or-set_same, get_or-set_other}
use Rattle.drive.specs.Axes.{axes}
use Rattle.drive.specs.Health.{is_up}
use Rattle.drive.specs.Laws.{Keeps, Aimed, Kept}
use Rattle.drive.specs.Range.{InRange, Between, bottom, top}
use Rattle.drive.proofs.Indices.{get_or-each}
use Rattle.drive.proofs.Orders.{within_true}
use Rattle.motors.specs.Banks.{absent_motor, with_motor, motor_of, banked}
use Rattle.motors.specs.Limits.{clamped_same}
use Rattle.motors.specs.Motors.{near, aimed}
use Rattle.motors.specs.Rules.{Rule, Lawful}
use Rattle.motors.specs.declared.bank.Bank.{Bank}
use Rattle.motors.specs.declared.motor.Motor.{Motor}
use Rattle.motors.specs.declared.ranged.Ranged.{Ranged}

pub near_value : (z : ℤ) → InRange z → (near z).value ≡ z
unfolding near
near_value z h = clamped_same bottom top z h

pub between_range : (a b : Ranged) (z : ℤ) → Between a.value b.value z → InRange z
between_range a b z (inl h) = let x = a.ok in let y = b.ok in (omega (arith, ints), omega (arith, ints))
between_range a b z (inr h) = let x = a.ok in let y = b.ok in (omega (arith, ints), omega (arith, ints))

module _ {A : Type 0} (r : Rule A) (b : Bank A) where
  pub motor_at : (k : ℕ) (m : Motor A) → k < axes → motor_of r (with_motor b k m) k ≡ m
  motor_at k m h = let lt : k < length b.motors = omega (arith, b.full) in get_or-set_same b.motors k m _ lt

  aims : (k : ℕ) (t : Ranged) → k < axes → Aimed (banked r) b (with_motor b k (aimed (motor_of r b k) t)) k t.value
  aims k t h =
      let e = motor_at k (aimed (motor_of r b k) t) h in
      record {
        position = ap (λ (m : Motor A). m.position.value) e;
        target = ap (λ (m : Motor A). m.target.value) e;
        least = refl;
        greatest = refl;
        down = ap (λ (m : Motor A). r.down m.own) e;
      }

  others : (k j : ℕ) (m : Motor A) → j ≢ k → Kept (banked r) b (with_motor b k m) j
  others k j m ne =
      let e : motor_of r (with_motor b k m) j ≡ motor_of r b j = get_or-set_other b.motors k j m _ ne in
      record {
        position = ap (λ (m : Motor A). m.position.value) e;
        target = ap (λ (m : Motor A). m.target.value) e;
        least = refl;
        greatest = refl;
        down = ap (λ (m : Motor A). r.down m.own) e;
      }

pub banked_keeps : {A : Type 0} (r : Rule A) → Lawful r → Keeps (banked r)
banked_keeps {A} r L = record {
  sound = λ b k h. record {
    position = (motor_of r b k).position.ok;
    target = (motor_of r b k).target.ok;
    least = (le_z_yes tt, le_z_yes tt);
    greatest = (le_z_yes tt, le_z_yes tt);
  };
  begun_at = λ b k t h up reach. subst (λ g. Aimed (banked r) b (with_motor b k (aimed (motor_of r b k) (near t))) k g) (near_value t (within_true _ _ t reach)) (aims r b k (near t) h);
  begun_off = λ b k j t h hj ne up reach. others r b k j _ ne;
  halted_at = λ b k h. aims r b k (motor_of r b k).position h;
  halted_off = λ b k j h hj ne. others r b k j _ ne;
  advanced_at = λ b readings w k h.
      let m = motor_of r b k in
      let e = get_or-each (λ j. r.moved (motor_of r b j) (slice_index_or readings j (pos 0)) (is_up w j)) k (absent_motor r) h in
      record {
        position = subst (λ (n : Motor A). Between m.position.value m.target.value n.position.value) (sym e) (L.position m (slice_index_or readings k (pos 0)) (is_up w k));
        target = ap (λ (n : Motor A). n.target.value) e ∙ ap (λ (t : Ranged). t.value) (L.target m (slice_index_or readings k (pos 0)) (is_up w k));
        least = refl;
        greatest = refl;
      };
}
