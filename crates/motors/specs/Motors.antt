-- Numbers in range, and motors. Assumes nothing.
use Rattle.std.specs.Prelude.{ℤ}
use Rattle.std.specs.Int.Signed.{le_z_yes}
use Rattle.drive.specs.Range.{bottom, top}
use Rattle.motors.specs.Limits.{clamped, clamped_within}
use Rattle.motors.specs.declared.motor.Motor.{Motor}
use Rattle.motors.specs.declared.ranged.Ranged.{Ranged}

unfoldable pub near : ℤ → Ranged
near z = record { value = clamped bottom top z; ok = clamped_within bottom top z (le_z_yes tt) }

-- at a place and bound for it
abbrev pub resting : {A : Type 0} → Ranged → A → Motor A
resting p own = record { position = p; target = p; own = own }

abbrev pub aimed : {A : Type 0} → Motor A → Ranged → Motor A
aimed m t = record { position = m.position; target = t; own = m.own }
