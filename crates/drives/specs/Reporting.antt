-- The reporting drive. Assumes nothing.
use Rattle.std.specs.Prelude.{ℕ, Bool, true, false, ◌&&◌, List, ℤ, pos, slice_index_or}
use Rattle.std.specs.Int.{int_min, int_max}
use Rattle.drive.specs.Range.{within}
use Rattle.motors.specs.Motors.{near, resting}
use Rattle.motors.specs.Rules.{Rule}
use Rattle.motors.specs.Banks.{bank_of}
use Rattle.motors.specs.declared.bank.Bank.{Bank}
use Rattle.drives.specs.declared.reporting.Link.{Link}
use Rattle.motors.specs.declared.motor.Motor.{Motor}

abbrev pub link : Bool → Link
link d = record { down = d }

-- z lies between position and target, both included
abbrev pub on_way : Motor Link → ℤ → Bool
on_way m z = within (int_min m.position.value m.target.value) (int_max m.position.value m.target.value) z

-- a motor that is heard stands at the reading and is up; one that is not stays and is down
abbrev pub settled : Bool → Motor Link → ℤ → Motor Link
settled true m z = record { position = near z; target = m.target; own = link false }
settled false m z = record { position = m.position; target = m.target; own = link true }

abbrev pub reported : Rule Link
reported = record {
  down = λ l. l.down;
  moved = λ m reading up. settled (up && on_way m reading) m reading;
  absent = link false;
}

abbrev pub ReportingState : Type 0
ReportingState = Bank Link

-- still at its start, and up
abbrev pub reporting_start : List ℤ → ℕ → Motor Link
reporting_start starts k = resting (near (slice_index_or starts k (pos 0))) (link false)

abbrev pub reporting_from : List ℤ → ReportingState
reporting_from starts = bank_of (reporting_start starts)
