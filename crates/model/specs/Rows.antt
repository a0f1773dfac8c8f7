-- The rows of a sheet.
use Rattle.std.specs.Prelude.{ℕ, pos}
use Rattle.queue.specs.declared.entry.Entry.{Entry}
use Rattle.queue.specs.Entries.{code_number}
use Rattle.model.specs.declared.row.Row.{Row}

abbrev row : ℕ → ℕ → Row
row kind n = record { kind = kind; count = n; serial = 0; code = 0; operand = pos 0 }

abbrev pub nothing : Row
nothing = row 0 0

-- `n` entries were placed.
abbrev pub accepted : ℕ → Row
accepted n = row 1 n

abbrev pub executed : ℕ → Entry → Row
executed s e = record { kind = 2; count = 0; serial = s; code = code_number e.code; operand = e.operand }

abbrev pub in_motion : Row
in_motion = row 3 0

abbrev pub awaiting : Row
awaiting = row 4 0

abbrev pub drive_down : Row
drive_down = row 5 0

abbrev pub dead : Row
dead = row 6 0

-- `n` entries were dropped.
abbrev pub by_command : ℕ → Row
by_command n = row 7 n

abbrev pub by_sample : ℕ → Row
by_sample n = row 8 n

abbrev pub by_reach : ℕ → Row
by_reach n = row 9 n
