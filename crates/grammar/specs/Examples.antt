-- Texts of the right form, and others with the place at which they cease to be. Assumes nothing.
use Rattle.std.specs.Prelude.{ℕ, Bool, true, false, List, [], ◌∷◌, Some, None, codes, Option}
use Rattle.std.specs.List.{AllByRecursion}
use Rattle.drive.specs.Axes.{each}
use Rattle.grammar.specs.Forms.{RightOne, RightAll, RightBench, RightSet}
use Rattle.grammar.specs.Law.{ThePlace}

pub data Where : Type 0 where
  -- port M with one axis selected, whose units are on or off
  one : (units : Bool) → Where
  -- port M in AA, with all units off
  all : Where
  bench : Where
  set : Where

abbrev pub Right : Where → List ℕ → Type 0
Right (one units) = RightOne units
Right all = RightAll (each (λ _. false))
Right bench = RightBench
Right set = RightSet

pub record Example : Type 0 where
  pub on : Where
  pub text : List ℕ
  -- none where the text is right
  pub place : Option ℕ

abbrev pub ShownBy : (List ℕ → Type 0) → List ℕ → Option ℕ → Type 0
ShownBy right text None = right text
ShownBy right text (Some p) = (right text → ⊥) × ThePlace right text p

abbrev pub Shown : Example → Type 0
Shown e = ShownBy (Right e.on) e.text e.place

abbrev on : Where → List ℕ → Option ℕ → Example
on w text place = record { on = w; text = text; place = place }

abbrev pub examples : List Example
examples =
    on (one false) (codes "MR5") None
    ∷ on (one false) (codes "MR1.5") (Some 3)
    ∷ on (one true) (codes "mr1.5") None
    ∷ on (one true) (codes "MR+") (Some 3)
    ∷ on (one false) (codes "GO") None
    ∷ on all (codes "GO") (Some 2)
    ∷ on all (codes "MR,100") None
    ∷ on all (codes "MR,,,,,,,,") (Some 9)
    ∷ on bench (codes "08TP") None
    ∷ on bench (codes "3ST1") (Some 3)
    ∷ on set (codes "iok,c") None
    ∷ on set (codes "IOK,5") (Some 4)
    ∷ []

abbrev pub Examples : Type 0
Examples = AllByRecursion Shown examples
