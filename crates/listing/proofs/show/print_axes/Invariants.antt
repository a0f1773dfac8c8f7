use Rattle.std.proofs.Common.{◌≡◌, ◌++◌, vec_items}
use Rattle.drive.specs.Axes.{in_order}
use Rattle.listing.specs.Shows.{course_line}
use Rattle.listing.proofs.Rows.{lines_of}
use Rattle.listing.proofs.show.print_axes.Given as goal

abbrev pub invariant-loop-axis : goal.invariant-loop-axis
invariant-loop-axis l =
    vec_items l.out ++ lines_of course_line l.axis-iterator.a.rest.now l.axis-iterator.b.rest.now ≡ vec_items l.initial.out ++ lines_of course_line in_order l.courses
