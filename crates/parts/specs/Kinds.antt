-- The kinds of rows, by their numbers. Assumes nothing.
use Rattle.std.specs.Prelude.{ℕ, pos}
use Rattle.model.specs.declared.row.Row.{Row}
use Rattle.parts.specs.declared.rows.Kind.{Kind}
use Rattle.parts.specs.declared.rows.Kind.TheVariants.{Nothing, Accepted, Executed, InMotion, Awaiting, DriveDown, Killed, ByCommand, BySample, ByReach}

abbrev pub number : Kind → ℕ
number Nothing = 0
number Accepted = 1
number Executed = 2
number InMotion = 3
number Awaiting = 4
number DriveDown = 5
number Killed = 6
number ByCommand = 7
number BySample = 8
number ByReach = 9

-- A row of this kind, of `n` entries.
abbrev pub counted : Kind → ℕ → Row
counted k n = record { kind = number k; count = n; serial = 0; code = 0; operand = pos 0 }
