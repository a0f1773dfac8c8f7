use Rattle.std.proofs.Common.{◌≡◌, ◌++◌, vec_items}
use Rattle.drive.specs.Axes.{in_order}
use Rattle.listing.specs.Printing.{row_line}
use Rattle.listing.proofs.Rows.{lines_of}
use Rattle.listing.proofs.output.print_rows.Given as goal

abbrev pub invariant-loop-axis : goal.invariant-loop-axis
invariant-loop-axis l =
    vec_items l.out ++ lines_of row_line l.axis-iterator.a.rest.now l.axis-iterator.b.rest.now ≡ vec_items l.initial.out ++ lines_of row_line in_order l.sheet
