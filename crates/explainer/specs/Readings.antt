-- What is told of each text of a block, one after the other. Assumes nothing.
use Rattle.std.specs.Prelude.{ℕ, true, false, cond, List, [], Some, None, Ok, Err, codes, Option, Result}
use Rattle.std.specs.Str.{bytes_eq}
use Rattle.drive.specs.declared.axis.Axis.{Axis}
use Rattle.drive.specs.declared.axis.Axis.TheVariants.{X}
use Rattle.command.specs.declared.request.Port.TheVariants.{M, P}
use Rattle.command.specs.declared.request.Selection.{Selection}
use Rattle.command.specs.declared.request.Selection.TheVariants.{One}
use Rattle.command.specs.declared.request.Command.{Command}
use Rattle.command.specs.declared.request.Request.{Request}
use Rattle.command.specs.declared.request.Request.TheVariants.{Select, Place, Clear, Positions, Places, ErrorRecord}
use Rattle.command.specs.declared.request.Refusal.{Refusal}
use Rattle.command.specs.declared.request.Setting.{Setting}
use Rattle.command.specs.declared.request.Setting.TheVariants as Sets
use Rattle.command.specs.Reading.{read, read_setting}
use Rattle.explainer.specs.declared.reading.Reading.{Reading}
use Rattle.explainer.specs.declared.reading.Reading.TheVariants.{Mount, Bench, Set}
use Rattle.explainer.specs.declared.reading.Explainer.{Explainer}
use Rattle.reports.specs.Tellings.{Telling}
use Rattle.explainer.specs.Words.{request_words, refusal_words}
use Rattle.explainer.specs.Settings.{change_words}

-- the reading that a word names; port M's has no word
abbrev pub named : List ℕ → Option Reading
named word = cond (bytes_eq word (codes "p")) (Some Bench) (cond (bytes_eq word (codes "set")) (Some Set) None)

-- at first X is selected on port M, and is port P's last axis and Set's own
abbrev pub start : Reading → Explainer
start reading = record { reading = reading; selection = One X; last = X; own = X }

-- what a request selects, and where Set goes, holds for the texts after it
abbrev pub selected : Selection → Request → Selection
selected s (Select t) = t
selected s (Place c os go) = s
selected s (Clear os halt) = s
selected s (Positions t) = s
selected s (Places t) = s
selected s ErrorRecord = s

abbrev pub moved : Axis → Setting → Axis
moved a (Sets.Select b) = b
moved a (Sets.UnitsOn d) = a
moved a Sets.UnitsOff = a
moved a (Sets.KillInput bit level) = a
moved a Sets.NoKillInputs = a

abbrev pub after_command : Explainer → Command → Explainer
after_command k c = record { reading = k.reading; selection = selected k.selection c.request; last = c.last; own = k.own }

abbrev pub after_setting : Explainer → Setting → Explainer
after_setting k x = record { reading = k.reading; selection = k.selection; last = k.last; own = moved k.own x }

-- a refused text leaves all as it was
abbrev pub refused : Explainer → Refusal → Telling Explainer
refused k e = record { words = refusal_words e; known = false; after = k }

abbrev pub by_command : Explainer → Result Command Refusal → Telling Explainer
by_command k (Ok c) = record { words = request_words c.request; known = true; after = after_command k c }
by_command k (Err e) = refused k e

abbrev pub by_setting : Explainer → Result Setting Refusal → Telling Explainer
by_setting k (Ok x) = record { words = change_words k.own x; known = true; after = after_setting k x }
by_setting k (Err e) = refused k e

-- a text as the controller reads it, with all units off
abbrev pub told_as : Reading → Explainer → List ℕ → Telling Explainer
told_as Mount k text = by_command k (read M k.selection k.last [] text)
told_as Bench k text = by_command k (read P k.selection k.last [] text)
told_as Set k text = by_setting k (read_setting text)

abbrev pub told : Explainer → List ℕ → Telling Explainer
told k text = told_as k.reading k text
