-- Examples of lines that are read, of lines that are skipped, and of what is printed.
use Rattle.std.specs.Prelude.{◌≡◌, List, [], ◌∷◌, map, ℤ, pos, negsuc, Some, None, codes}
use Rattle.drive.specs.declared.axis.Axis.TheVariants.{X}
use Rattle.command.specs.declared.request.Port.TheVariants.{M, P}
use Rattle.model.specs.declared.refusal.Refusal.TheVariants.{Killed}
use Rattle.model.specs.declared.row.Row.{Row}
use Rattle.model.specs.Rows.{nothing, accepted}
use Rattle.model.specs.Controller.{refused, told, dropped_all}
use Rattle.listing.specs.declared.show.Course.{Course}
use Rattle.listing.specs.Lines.{command, sample, step, input}
use Rattle.listing.specs.Printing.{printed}
use Rattle.listing.specs.Shows.{shown}

abbrev pub Read : Type 0
Read =
    (input (codes "M MR5") ≡ Some (command M (codes "MR5")))
    × (input (codes "P ") ≡ Some (command P []))
    × (input (codes "S 00aF") ≡ Some (sample 175))
    × (input (codes "T") ≡ Some step)
    × (input (codes "M") ≡ None)
    × (input (codes "m GO") ≡ None)
    × (input (codes "T ") ≡ None)
    × (input (codes "S 12") ≡ None)

-- MR -5 was executed.
abbrev back_five : Row
back_five = record { kind = 2; count = 0; serial = 1; code = 2; operand = negsuc 4 }

-- An axis at a position, on its way to a target.
abbrev course : ℤ → ℤ → Course
course position target = record { position = position; target = target }

abbrev two_courses : List Course
two_courses = course (pos 2) (pos 5) ∷ course (pos 0) (negsuc 0) ∷ []

abbrev pub Printed : Type 0
Printed =
    (printed (told (accepted 1 ∷ nothing ∷ accepted 2 ∷ []) []) ≡ codes "X 1 1 0 0 0\nZ 1 2 0 0 0\n")
    × (printed (told (back_five ∷ []) []) ≡ codes "X 2 0 1 2 -5\n")
    × (printed (told (nothing ∷ []) (codes "2\n")) ≡ codes "= 2\n")
    × (printed (refused (Killed X)) ≡ codes "! 9 0 1\n")
    × (printed (dropped_all (0 ∷ 3 ∷ 128 ∷ [])) ≡ codes "- 0 3 128\n")
    × (shown 175 (pos 2 ∷ []) (pos 5 ∷ negsuc 0 ∷ []) ≡ codes "word 00AF\nX 2 5\nY 0 -1\nZ 0 0\nT 0 0\nU 0 0\nV 0 0\nR 0 0\nS 0 0\n")
    × (shown 175 (map (λ c. c.position) two_courses) (map (λ c. c.target) two_courses) ≡ codes "word 00AF\nX 2 5\nY 0 -1\nZ 0 0\nT 0 0\nU 0 0\nV 0 0\nR 0 0\nS 0 0\n")
