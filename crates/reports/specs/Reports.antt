-- The report of a block.
use Rattle.std.specs.Prelude.{ℕ, Bool, true, false, List, [], ◌++◌, string_bytes, fold}
use Rattle.text.specs.Blocks.{Cut, command, unfinished, end, pieces}
use Rattle.reports.specs.declared.block.Draft.{Draft}
use Rattle.reports.specs.declared.tally.Tally.{Tally}
use Rattle.reports.specs.Lines.{line}
use Rattle.reports.specs.Tallies.{none, counted, summary}
use Rattle.reports.specs.Tellings.{Telling}

-- a report as far as it goes: its lines, the tally of the texts, and who tells of the next one
pub record Report (T : Type 0) : Type 0 where
  pub lines : List ℕ
  pub tally : Tally
  pub teller : T

abbrev pub so_far : {T : Type 0} → Draft T → Report T
so_far d = record { lines = string_bytes d.lines; tally = d.tally; teller = d.teller }

abbrev pub blank : {T : Type 0} → T → Report T
blank teller = record { lines = []; tally = none; teller = teller }

abbrev pub with_line : {T : Type 0} → Report T → Telling T → List ℕ → ℕ → Bool → Report T
with_line r t text offset finished =
    record { lines = r.lines ++ line t.words text offset finished; tally = counted r.tally t.known finished; teller = t.after }

-- one text more: its line, its part in the tally, and what it leaves to those after it
abbrev pub with_text : {T : Type 0} → (T → List ℕ → Telling T) → Report T → List ℕ → ℕ → Bool → Report T
with_text telling r text offset finished = with_line r (telling r.teller text) text offset finished

abbrev pub with_piece : {T : Type 0} → (T → List ℕ → Telling T) → Report T → Cut → Report T
with_piece telling r (command w at) = with_text telling r w at true
with_piece telling r (unfinished w at) = with_text telling r w at false
with_piece telling r end = r

abbrev pub ended : {T : Type 0} → Report T → List ℕ
ended r = r.lines ++ summary r.tally

-- a line for each text, and the tally of all
unfoldable pub reported : {T : Type 0} → (T → List ℕ → Telling T) → T → List ℕ → List ℕ
reported telling teller block = ended (fold (with_piece telling) (blank teller) (pieces block 0))
