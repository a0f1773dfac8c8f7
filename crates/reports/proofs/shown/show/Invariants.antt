use Rattle.std.proofs.Common.{◌≡◌, ◌++◌, take, string_bytes}
use Rattle.reports.specs.Lines.{shown}
use Rattle.reports.proofs.shown.show.Given as goal

abbrev pub invariant-loop-byte : goal.invariant-loop-byte
invariant-loop-byte l = string_bytes l.lines ≡ string_bytes l.initial.lines ++ shown (take l.byte-index l.text)
