-- The drives that a script can choose.
use Rattle.std.specs.Prelude.{ℕ, List, [], ◌∷◌, codes, Option}
use Rattle.std.specs.Option.{option_map}
use Rattle.listing.specs.Lines.{by_front}
use Rattle.script.specs.declared.drives.BaseDrive.{BaseDrive}
use Rattle.script.specs.declared.drives.BaseDrive.TheVariants.{Counting, Reporting}
use Rattle.script.specs.declared.drives.DriveChoice.{DriveChoice}
use Rattle.script.specs.declared.drives.DriveChoice.TheVariants.{Base, Ratio}
use Rattle.script.specs.Numbers.{then, number, leading}

-- `counting RATE START` and `reporting START`.
abbrev pub base : List ℕ → Option BaseDrive
base text =
    by_front (
    (codes "counting ", λ rest. then (leading rest) (λ p. option_map (Counting p.0) (number p.1)))
    ∷ (codes "reporting ", λ rest. option_map Reporting (number rest))
    ∷ []
    )
    text

-- `ratio M` before one of these, or one of these alone.
abbrev pub choice : List ℕ → Option DriveChoice
choice text =
    by_front (
    (codes "ratio ", λ rest. then (leading rest) (λ p. option_map (Ratio p.0) (base p.1)))
    ∷ (codes "", λ all. option_map Base (base all))
    ∷ []
    )
    text
