-- A line of each kind, and some that are none.
use Rattle.std.specs.Prelude.{◌≡◌, [], ◌∷◌, pos, negsuc, Some, None, codes}
use Rattle.command.specs.declared.request.Port.TheVariants.{M}
use Rattle.script.specs.declared.drives.BaseDrive.TheVariants.{Counting, Reporting}
use Rattle.script.specs.declared.drives.DriveChoice.TheVariants.{Base, Ratio}
use Rattle.script.specs.Scripts.{new, set_text, arm, park, command, sample, step, rows, answer, show, healthy, script}

abbrev pub Taken : Type 0
Taken =
    (script (codes "new counting 2 -5") ≡ Some (new (Base (Counting (pos 2) (negsuc 4)))))
    × (script (codes "new reporting 0") ≡ Some (new (Base (Reporting (pos 0)))))
    × (script (codes "new ratio 10 counting 2 0") ≡ Some (new (Ratio (pos 10) (Counting (pos 2) (pos 0)))))
    × (script (codes "new ratio 10 reporting 7") ≡ Some (new (Ratio (pos 10) (Reporting (pos 7)))))
    × (script (codes "set UU2.5") ≡ Some (set_text (codes "UU2.5")))
    × (script (codes "arm 00fF") ≡ Some (arm 255))
    × (script (codes "park") ≡ Some park)
    × (script (codes "M  GO") ≡ Some (command M (codes " GO")))
    × (script (codes "S 0004") ≡ Some (sample 4))
    × (script (codes "T 0f") ≡ Some (step (healthy 15) []))
    × (script (codes "T FE 3 -4") ≡ Some (step (healthy 254) (pos 3 ∷ negsuc 3 ∷ [])))
    × (script (codes "rows 64") ≡ Some (rows 64))
    × (script (codes "answer 0191") ≡ Some (answer 191))
    × (script (codes "show") ≡ Some show)

abbrev pub Skipped : Type 0
Skipped =
    (script (codes "new counting 2") ≡ None)
    × (script (codes "new counting 2 0 ") ≡ None)
    × (script (codes "new reporting +1") ≡ None)
    × (script (codes "new reporting 12345678901") ≡ None)
    × (script (codes "new ratio 2 ratio 2 reporting 0") ≡ None)
    × (script (codes "set") ≡ None)
    × (script (codes "arm  00FF") ≡ None)
    × (script (codes "park ") ≡ None)
    × (script (codes "T ") ≡ None)
    × (script (codes "T FF  1") ≡ None)
    × (script (codes "rows 65") ≡ None)
    × (script (codes "answer -0") ≡ None)
