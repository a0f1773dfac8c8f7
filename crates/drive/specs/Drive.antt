-- What is told of a drive's state, and what becomes of it. Assumes nothing.
use Rattle.std.specs.Prelude.{ℕ, Bool, true, false, List, ℤ, Ok, Err, Result}
use Rattle.drive.specs.Axes.{axes, through}
use Rattle.drive.specs.Range.{within, same}
use Rattle.drive.specs.declared.health.Health.{Health}
use Rattle.drive.specs.declared.motion.Decline.{Decline}
use Rattle.drive.specs.declared.motion.Decline.TheVariants.{Down, Reach}

-- An axis goes by its index.
pub record Ops (S : Type 0) : Type 0 where
  pub position : S → ℕ → ℤ
  pub target : S → ℕ → ℤ
  pub least : S → ℕ → ℤ
  pub greatest : S → ℕ → ℤ
  pub down : S → ℕ → Bool
  -- the state once the target is begun; asked only of an axis that is not down, at a target in its reach
  pub begun : S → ℕ → ℤ → S
  pub halted : S → ℕ → S
  -- the state after one advance, by the readings and the health of the axes
  pub advanced : S → List ℤ → Health → S

-- down first, then reach
abbrev pub answer : Bool → Bool → Result (Unit {0}) Decline
answer true reached = Err Down
answer false true = Ok tt
answer false false = Err Reach

-- s where the answer is a refusal, else t
abbrev pub left_by : {S : Type 0} → Result (Unit {0}) Decline → S → S → S
left_by (Ok _) s t = t
left_by (Err _) s t = s

module _ {S : Type 0} (o : Ops S) (s : S) (k : ℕ) where
  abbrev pub still : Bool
  still = same (o.position s k) (o.target s k)

  abbrev pub reaches : ℤ → Bool
  reaches t = within (o.least s k) (o.greatest s k) t

  -- what `begin` answers
  abbrev pub reply : ℤ → Result (Unit {0}) Decline
  reply t = answer (o.down s k) (reaches t)

  -- what `begin` leaves
  abbrev pub tried : ℤ → S
  tried t = left_by (reply t) s (o.begun s k t)

-- every axis halted, in order
abbrev pub all_halted : {S : Type 0} → Ops S → S → S
all_halted o s = through o.halted axes s
