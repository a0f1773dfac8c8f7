-- A rule for one axis, at every axis. Assumes nothing.
use Rattle.std.specs.Prelude.{ℕ, pos, slice_index_or, slice_set}
use Rattle.std.proofs.Common.{◌∙◌, length-set}
use Rattle.drive.specs.Axes.{each, length-each}
use Rattle.drive.specs.Drive.{Ops}
use Rattle.drive.specs.Health.{is_up}
use Rattle.drive.specs.Range.{bottom, top}
use Rattle.motors.specs.Motors.{near, resting, aimed}
use Rattle.motors.specs.Rules.{Rule}
use Rattle.motors.specs.declared.bank.Bank.{Bank}
use Rattle.motors.specs.declared.motor.Motor.{Motor}
use Rattle.motors.specs.declared.ranged.Ranged.{Ranged}

module _ {A : Type 0} where
  abbrev pub with_motor : Bank A → ℕ → Motor A → Bank A
  with_motor b k m = record { motors = slice_set b.motors k m; full = length-set b.motors k m ∙ b.full }

  abbrev pub bank_of : (ℕ → Motor A) → Bank A
  bank_of f = record { motors = each f; full = length-each f }

module _ {A : Type 0} (r : Rule A) where
  abbrev pub absent_motor : Motor A
  absent_motor = resting (near (pos 0)) r.absent

  abbrev pub motor_of : Bank A → ℕ → Motor A
  motor_of b k = slice_index_or b.motors k absent_motor

  abbrev pub aimed_at : Bank A → ℕ → Ranged → Bank A
  aimed_at b k t = with_motor b k (aimed (motor_of b k) t)

  abbrev pub banked : Ops (Bank A)
  banked = record {
    position = λ b k. (motor_of b k).position.value;
    target = λ b k. (motor_of b k).target.value;
    least = λ b k. bottom;
    greatest = λ b k. top;
    down = λ b k. r.down (motor_of b k).own;
    begun = λ b k t. aimed_at b k (near t);
    halted = λ b k. aimed_at b k (motor_of b k).position;
    advanced = λ b readings h. bank_of (λ k. r.moved (motor_of b k) (slice_index_or readings k (pos 0)) (is_up h k));
  }
