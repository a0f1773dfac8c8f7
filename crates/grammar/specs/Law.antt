-- What the place of a refusal means, for texts of commands and of Set. Assumes nothing.
use Rattle.std.specs.Prelude.{◌≡◌, ℕ, ◌+◌, ◌≤◌, false, ◌⊎◌, List, [], ◌∷◌, ◌++◌, length, take, is_some, Ok, Err, Result, ◌≢◌}
use Rattle.drive.specs.declared.axis.Axis.{Axis}
use Rattle.drive.specs.Axes.{index, each}
use Rattle.command.specs.declared.request.Port.TheVariants.{M, P}
use Rattle.command.specs.declared.request.Selection.{Selection}
use Rattle.command.specs.declared.request.Selection.TheVariants.{One, All}
use Rattle.command.specs.declared.request.Refusal.{Refusal}
use Rattle.command.specs.declared.request.Refusal.TheVariants.{Length, Name, Mode, Form, Range}
use Rattle.command.specs.declared.request.Settings.{Settings}
use Rattle.command.specs.Operands.{units_of}
use Rattle.command.specs.Reading.{read, read_setting}
use Rattle.grammar.specs.Forms.{Digit, Named, Addressed, one_axis, on_bench, in_set, RightOne, RightAll, RightBench, RightSet}

-- Some text of L begins with these bytes.
abbrev pub Begun : (List ℕ → Type 0) → List ℕ → Type 0
Begun L w = (rest : List ℕ) × L (w ++ rest)

-- The first p bytes begin a text of L; there the text ends, or its first p + 1 bytes begin none.
pub record Place (L : List ℕ → Type 0) (text : List ℕ) (p : ℕ) : Type 0 where
  pub within : p ≤ length text
  pub fits : Begun L (take p text)
  pub stops : (p ≡ length text) ⊎ (Begun L (take (p + 1) text) → ⊥)

-- The one such place.
abbrev pub ThePlace : (List ℕ → Type 0) → List ℕ → ℕ → Type 0
ThePlace L text p = Place L text p × ((q : ℕ) → Place L text q → q ≡ p)

-- Refused for the name, as not valid in AA, or for the form.
abbrev pub Misformed : {A : Type 0} → Result A Refusal → Type 0
Misformed (Ok a) = ⊥
Misformed (Err Length) = ⊥
Misformed (Err (Name p)) = Unit {0}
Misformed (Err Mode) = Unit {0}
Misformed (Err (Form p)) = Unit {0}
Misformed (Err (Range p)) = ⊥

-- What a refusal tells of the text; `right` are the texts of the right form, and `named` those with a name of the port and any text after it.
-- For the name: there is none, and at the place no name goes on. For the form: there is a name, and at the place no text of the right form goes on.
abbrev pub Told : {A : Type 0} → (named right : List ℕ → Type 0) → List ℕ → Result A Refusal → Type 0
Told named right text (Ok a) = Unit {0}
Told named right text (Err Length) = Unit {0}
Told named right text (Err (Name p)) = (named text → ⊥) × ThePlace named text p
Told named right text (Err Mode) = named text
Told named right text (Err (Form p)) = named text × ThePlace right text p
Told named right text (Err (Range p)) = Unit {0}

-- A text is refused for its name, its form or as not valid in AA if, and only if, it is not of the right form.
pub record Meaning {A : Type 0} (named right : List ℕ → Type 0) (text : List ℕ) (r : Result A Refusal) : Type 0 where
  pub refuses_wrong : Misformed r → right text → ⊥
  pub takes_right : (Misformed r → ⊥) → right text
  pub told : Told named right text r

-- The same, leaving aside a text that is refused for its length.
abbrev pub Meant : {A : Type 0} → (named right : List ℕ → Type 0) → List ℕ → Result A Refusal → Type 0
Meant named right text r = (r ≢ Err Length) → Meaning named right text r

-- On port M numbers have points where the units of their axis are on.
abbrev pub RightMount : Selection → List Settings → List ℕ → Type 0
RightMount (One a) ts = RightOne (is_some (units_of ts (index a)))
RightMount All ts = RightAll (each (λ k. is_some (units_of ts k)))

abbrev pub OnMount : Type 0
OnMount = (s : Selection) (last : Axis) (ts : List Settings) (text : List ℕ) → Meant (Named (one_axis false)) (RightMount s ts) text (read M s last ts text)

abbrev pub Undigited : List ℕ → Type 0
Undigited [] = Unit {0}
Undigited (b ∷ bs) = Digit b → ⊥

-- On port P, where the leading digits are an axis number or none.
abbrev pub OnBench : Type 0
OnBench =
    (s : Selection) (last : Axis) (ts : List Settings) (text : List ℕ) → Addressed Undigited text → Meant (Addressed (Named on_bench)) RightBench text (read P s last ts text)

-- Where they are not, the text is not of the right form, and it is refused for its name at 0.
abbrev pub OffBench : Type 0
OffBench =
    (s : Selection) (last : Axis) (ts : List Settings) (text : List ℕ) → (Addressed Undigited text → ⊥) → (RightBench text → ⊥) × ((read P s last ts text ≢ Err Length) → read P s last ts text ≡ Err (Name 0))

abbrev pub InSet : Type 0
InSet = (text : List ℕ) → Meant (Named in_set) RightSet text (read_setting text)
