-- What a rule for one axis is. Assumes nothing.
use Rattle.std.specs.Prelude.{◌≡◌, Bool, ℤ}
use Rattle.drive.specs.Range.{Between}
use Rattle.motors.specs.declared.motor.Motor.{Motor}

-- A is what the axis keeps beside its position and its target.
pub record Rule (A : Type 0) : Type 0 where
  pub down : A → Bool
  -- one advance, by the reading and whether the health bit is 1
  pub moved : Motor A → ℤ → Bool → Motor A
  -- stands past the last axis, where nothing looks
  pub absent : A

-- The target stays, and the position moves toward it, as far as that at most.
pub record Lawful {A : Type 0} (r : Rule A) : Type 0 where
  pub target : (m : Motor A) (reading : ℤ) (up : Bool) → (r.moved m reading up).target ≡ m.target
  pub position : (m : Motor A) (reading : ℤ) (up : Bool) → Between m.position.value m.target.value (r.moved m reading up).position.value
