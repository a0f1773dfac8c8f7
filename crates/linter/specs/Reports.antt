-- The report of a block.
use Rattle.std.specs.Prelude.{ℕ, Bool, true, false, List, [], ◌++◌, is_ok, fold}
use Rattle.std.specs.List.{flat_map}
use Rattle.text.specs.Blocks.{Cut, command, unfinished, end, pieces}
use Rattle.reports.specs.Lines as lines
use Rattle.reports.specs.Tallies.{TextTally, none, counted, summary}
use Rattle.reports.specs.Tellings.{Telling}
use Rattle.linter.specs.declared.verdict.Linter.{Linter}
use Rattle.linter.specs.Verdicts.{judged, told}

-- of a text it is told what it is; no text leaves anything to those after it
abbrev pub telling : Linter → List ℕ → Telling Linter
telling linter text = record { words = told (judged text); known = is_ok (judged text); after = linter }

abbrev pub line : List ℕ → ℕ → Bool → List ℕ
line text offset finished = lines.line (told (judged text)) text offset finished

-- the line of a text
abbrev pub line_of : Cut → List ℕ
line_of (command w at) = line w at true
line_of (unfinished w at) = line w at false
line_of end = []

-- and its part in the tally
abbrev pub tallied : TextTally → Cut → TextTally
tallied t (command w at) = counted t (is_ok (judged w)) true
tallied t (unfinished w at) = counted t (is_ok (judged w)) false
tallied t end = t

-- a line for each text, and the tally of all
unfoldable pub reported : List ℕ → List ℕ
reported block = flat_map line_of (pieces block 0) ++ summary (fold tallied none (pieces block 0))
