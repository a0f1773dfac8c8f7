use Rattle.std.proofs.Common.{◌≡◌, ◌++◌, map, drop, vec_items}
use Rattle.text.specs.Writing.{digits}
use Rattle.listing.specs.Printing.{ending}
use Rattle.listing.proofs.output.print_park.Given as goal

abbrev pub invariant-loop-count : goal.invariant-loop-count
invariant-loop-count l =
    vec_items l.out ++ ending (map digits (drop l.count-index l.dropped)) ≡ vec_items l.initial.out ++ ending (map digits l.dropped)
