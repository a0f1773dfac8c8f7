-- What is told of a text.
use Rattle.std.specs.Prelude.{◌≡◌, ℕ, Bool, true, false, List, ◌++◌, codes, decimal, string_bytes}
use Rattle.reports.specs.declared.teller.Told.{Told}
use Rattle.reports.specs.declared.teller.Told.TheVariants.{Known, Refused}

-- of a refused text its refusal's number and place are told
abbrev pub words_of : Told → List ℕ
words_of (Known words) = string_bytes words
words_of (Refused number place) = codes "! " ++ (decimal number ++ (codes " " ++ decimal place))

abbrev pub is_known : Told → Bool
is_known (Known words) = true
is_known (Refused number place) = false

-- what is told of a text, whether it is known, and who tells of the next one
pub record Telling (T : Type 0) : Type 0 where
  pub words : List ℕ
  pub known : Bool
  pub after : T

abbrev pub Tells : {T : Type 0} → Told → T → Telling T → Type 0
Tells told after t = (words_of told ≡ t.words) × (is_known told ≡ t.known) × (after ≡ t.after)
