-- What a step finds of GO at the head.
use Rattle.std.specs.Prelude.{ℕ, ℤ, Ok, Err, Option, Result}
use Rattle.drive.specs.declared.motion.Decline.{Decline}
use Rattle.drive.specs.declared.motion.Decline.TheVariants.{Down, Reach}
use Rattle.drive.specs.Drive.{Ops, reaches}
use Rattle.queue.specs.declared.entry.Entry.{Entry}
use Rattle.model.specs.declared.row.Row.{Row}
use Rattle.model.specs.Rows.{executed, drive_down}
use Rattle.model.specs.Machine.{Machine, Part, Next, stays, begins, overreaches, at, put, serial, stepped, going}

-- With a plan, by what the drive answers to it.
abbrev pub answered : Entry → ℤ → Result (Unit {0}) Decline → Next
answered e t (Ok _) = begins e t
answered e t (Err Down) = stays drive_down
answered e t (Err Reach) = overreaches

abbrev pub goes : {S : Type 0} → Ops S → ℕ → Machine S → Entry → Next
goes o k m e = going (at k m).queue.plan (o.down m.drive k) (reaches o m.drive k) e

-- The head, `e`, leaves the queue, and the plan becomes `p`.
abbrev pub executing : {S : Type 0} → Ops S → ℕ → Machine S → Option ℤ → Entry → Part S Row
executing o k m p e = record { now = put k m m.drive (stepped o k m p); tells = executed (serial (at k m).queue) e }
