-- The counting drive. Assumes nothing.
use Rattle.std.specs.Prelude.{ℕ, false, cond, List, ℤ, pos, ◌+ℤ◌, ◌-ℤ◌, int_le, slice_index_or}
use Rattle.std.specs.Int.Signed.{le_z_yes}
use Rattle.std.specs.Int.{int_min}
use Rattle.motors.specs.Motors.{near, resting}
use Rattle.motors.specs.Rules.{Rule}
use Rattle.motors.specs.Banks.{bank_of}
use Rattle.motors.specs.declared.bank.Bank.{Bank}
use Rattle.motors.specs.declared.motor.Motor.{Motor}
use Rattle.drives.specs.UpTos.{up_to_near}
use Rattle.drives.specs.declared.up_to.UpTo.{UpTo}

abbrev pub Rate : Type 0
Rate = UpTo 1000000

-- z, or the nearest rate
abbrev pub rate_near : ℤ → Rate
rate_near z = up_to_near 1000000 (le_z_yes tt) z

-- from p toward t, by the lesser of r and the distance left
unfoldable pub toward : ℤ → ℤ → ℤ → ℤ
toward p t r = cond (int_le p t) (p +ℤ int_min r (t -ℤ p)) (p -ℤ int_min r (p -ℤ t))

abbrev pub counted : Rule Rate
counted = record {
  down = λ _. false;
  moved = λ m reading up. record { position = near (toward m.position.value m.target.value m.own.value); target = m.target; own = m.own };
  absent = rate_near (pos 1);
}

abbrev pub CountingState : Type 0
CountingState = Bank Rate

-- still at its start, with its rate
abbrev pub counting_start : List ℤ → List ℤ → ℕ → Motor Rate
counting_start rates starts k = resting (near (slice_index_or starts k (pos 0))) (rate_near (slice_index_or rates k (pos 0)))

abbrev pub counting_from : List ℤ → List ℤ → CountingState
counting_from rates starts = bank_of (counting_start rates starts)
