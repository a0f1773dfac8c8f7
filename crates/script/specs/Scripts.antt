-- The lines of a script.
use Rattle.std.specs.Prelude.{ℕ, List, [], ◌∷◌, replicate, ℤ, pos, Some, None, vec_items, codes, Option}
use Rattle.std.specs.Option.{option_map}
use Rattle.drive.specs.Axes.{axes}
use Rattle.drive.specs.declared.health.Health.{Health}
use Rattle.command.specs.declared.request.Port.{Port}
use Rattle.listing.specs.Hex.{digits}
use Rattle.listing.specs.Lines as Lines
use Rattle.listing.specs.Lines.{Input, by_front, alone, input}
use Rattle.script.specs.declared.drives.DriveChoice.{DriveChoice}
use Rattle.script.specs.declared.lines.ScriptLine.{ScriptLine}
use Rattle.script.specs.declared.lines.ScriptLine.TheVariants.{New, Set, Arm, Park, Command, Sample, Step, Rows, Answer, Show}
use Rattle.script.specs.Words.{parted, words}
use Rattle.script.specs.Numbers.{then, size, numbers}
use Rattle.script.specs.Drives.{choice}

pub data Ask : Type 0 where
  new : DriveChoice → Ask
  set_text : (text : List ℕ) → Ask
  arm : (word : ℕ) → Ask
  park : Ask
  command : Port → (text : List ℕ) → Ask
  sample : (word : ℕ) → Ask
  step : Health → (readings : List ℤ) → Ask
  rows : ℕ → Ask
  answer : ℕ → Ask
  show : Ask

abbrev pub asks : ScriptLine → Ask
asks (New d) = new d
asks (Set text) = set_text text.now
asks (Arm word) = arm word
asks Park = park
asks (Command port text) = command port text.now
asks (Sample word) = sample word
asks (Step health readings) = step health (vec_items readings)
asks (Rows n) = rows n
asks (Answer n) = answer n
asks Show = show

abbrev pub asked : Option ScriptLine → Option Ask
asked o = option_map asks o

abbrev pub healthy : ℕ → Health
healthy bits = record { bits = bits }

-- A line of `axes`; its step has every axis up, and a reading of 0 for each.
abbrev pub of_input : Input → Ask
of_input (Lines.command port text) = command port text
of_input (Lines.sample word) = sample word
of_input Lines.step = step (healthy 255) (replicate axes (pos 0))

abbrev pub readings : Option (List ℕ) → Option (List ℤ)
readings None = Some []
readings (Some text) = numbers (words text)

-- `HH`, or `HH R1 .. Rn`.
abbrev pub stepping : List ℕ → Option Ask
stepping text = then (digits 2 (parted text).0) (λ bits. option_map (step (healthy bits)) (readings (parted text).1))

-- The lines that `axes` does not have, but for a step with readings.
abbrev pub own_rows : List (List ℕ × (List ℕ → Option Ask))
own_rows =
    (codes "new ", λ rest. option_map new (choice rest))
    ∷ (codes "set ", λ text. Some (set_text text))
    ∷ (codes "arm ", λ word. option_map arm (digits 4 word))
    ∷ (codes "rows ", λ n. option_map rows (size 64 n))
    ∷ (codes "answer ", λ n. option_map answer (size 4096 n))
    ∷ (codes "park", alone park)
    ∷ (codes "show", alone show)
    ∷ []

-- A line of `axes`, or one of the script's own.
abbrev pub script : List ℕ → Option Ask
script line = elim (input line) [ Some i ↦ Some (of_input i) | None ↦ by_front ((codes "T ", stepping) ∷ own_rows) line ]
