-- The lines of a session with a live controller. Assumes nothing.
use Rattle.std.specs.Prelude.{ℕ, List, replicate, pos, Some, None, Option}
use Rattle.drive.specs.Axes.{axes}
use Rattle.drive.specs.Drive.{Ops}
use Rattle.model.specs.Controller as C
use Rattle.listing.specs.Lines.{Input, command, sample, step}

-- An answer block of 192 bytes.
unfoldable pub blank_block : List ℕ
blank_block = replicate 192 0

-- The call that a line asks for. The sheet has a row for each axis; at a step every axis is up, and its reading 0.
abbrev pub call_for : Input → C.Call
call_for (command port text) = C.command port text C.no_rows blank_block
call_for (sample word) = C.sample word C.no_rows
call_for step = C.step (replicate axes (pos 0)) (record { bits = 255 }) C.no_rows

module _ {S : Type 0} (o : Ops S) (l : C.Live S) where
  abbrev pub on_input : Input → C.After S
  on_input i = C.call o (C.live l) (call_for i)

  -- Another line changes nothing, and nothing is told.
  abbrev pub on_line : Option Input → C.After S
  on_line None = C.after (C.live l) C.untaken
  on_line (Some i) = on_input i
