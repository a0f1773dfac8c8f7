-- The report of a block. Assumes nothing.
use Rattle.std.specs.Prelude.{ℕ, List}
use Rattle.reports.specs.Reports as reports
use Rattle.explainer.specs.declared.reading.Reading.{Reading}
use Rattle.explainer.specs.Readings.{start, told}

-- a line for each text, and the tally of all
abbrev pub reported : Reading → List ℕ → List ℕ
reported reading block = reports.reported told (start reading) block
