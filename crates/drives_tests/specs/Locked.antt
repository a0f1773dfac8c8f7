-- A drive that is always down, at 0. Assumes nothing.
use Rattle.std.specs.Prelude.{true, pos}
use Rattle.drive.specs.Drive.{Ops}

abbrev pub locked : {S : Type 0} → Ops S
locked = record {
  position = λ s k. pos 0;
  target = λ s k. pos 0;
  least = λ s k. pos 0;
  greatest = λ s k. pos 0;
  down = λ s k. true;
  begun = λ s k t. s;
  halted = λ s k. s;
  advanced = λ s readings h. s;
}
