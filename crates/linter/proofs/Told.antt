-- A report that is made text by text has the texts' lines in order, and the tally of all. Assumes nothing.
use Rattle.std.proofs.Common.{◌≡◌, ℕ, List, [], ◌∷◌, ◌++◌, fold, refl, ap, ◌∙◌, append-nil, append_assoc}
use Rattle.std.specs.List.{flat_map}
use Rattle.text.specs.Blocks.{Cut, command, unfinished, end, pieces}
use Rattle.reports.specs.Tallies.{TextTally}
use Rattle.reports.specs.Reports.{Report, blank, with_piece, ended, reported as made}
use Rattle.linter.specs.declared.verdict.Linter.{Linter}
use Rattle.linter.specs.Reports.{telling, line_of, tallied, reported}

-- a report with these lines and this tally after what it had
abbrev grown : Report Linter → List ℕ → TextTally → Report Linter
grown r lines tally = record { lines = r.lines ++ lines; tally = tally; teller = r.teller }

with_one : (r : Report Linter) (c : Cut) → with_piece telling r c ≡ grown r (line_of c) (tallied r.tally c)
with_one r (command w at) = refl
with_one r (unfinished w at) = refl
with_one r end = rw append-nil refl

with_all : (r : Report Linter) (cs : List Cut) → fold (with_piece telling) r cs ≡ grown r (flat_map line_of cs) (fold tallied r.tally cs)
with_all r [] = rw append-nil refl
with_all r (c ∷ cs) =
    ap (λ q. fold (with_piece telling) q cs) (with_one r c)
    ∙ with_all (grown r (line_of c) (tallied r.tally c)) cs
    ∙ ap (λ l. grown (blank r.teller) l (fold tallied (tallied r.tally c) cs)) (append_assoc r.lines (line_of c) (flat_map line_of cs))

pub told_in_order : (block : List ℕ) → made telling (record {}) block ≡ reported block
unfolding made reported
told_in_order block = ap ended (with_all (blank (record {})) (pieces block 0))
