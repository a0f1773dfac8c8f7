-- Numbers as they are typed and written, and that reading gives them back. Assumes nothing.
use Rattle.std.specs.Prelude.{◌≡◌, ℕ, ◌+◌, ◌-◌, ◌*◌, ◌^◌, ◌<◌, ◌≤◌, Bool, true, false, ◌||◌, List, [], ◌∷◌, ◌++◌, length, drop, ℤ, Ok, ◌==◌, unsigned_abs}
use Rattle.std.specs.Str.{all_ascii_digits}
use Rattle.text.specs.Numbers.{digit, signed, reads}
use Rattle.text.specs.Writing.{decimal}

pub data Sign : Type 0 where
  none : Sign
  plus : Sign
  minus : Sign

abbrev pub mark : Sign → List ℕ
mark none = []
mark plus = 43 ∷ []
mark minus = 45 ∷ []

abbrev pub below : Sign → Bool
below none = false
below plus = false
below minus = true

-- what digits make after the number v
abbrev pub amount : ℕ → List ℕ → ℕ
amount v [] = v
amount v (d ∷ ds) = amount (v * 10 + (d - 48)) ds

-- digits after a point; with none there is no point
abbrev pub fraction : List ℕ → List ℕ
fraction [] = []
fraction (d ∷ ds) = 46 ∷ d ∷ ds

-- nothing, or a byte that is no digit and no point
abbrev pub Stops : List ℕ → Type 0
Stops [] = Unit {0}
Stops (b ∷ bs) = (digit b || b == 46) ≡ false

-- A sign or none, digits, and a point with more digits or none, ten digits at most, read as the digits with the point
-- left out, as many places as digits after the point, and the end where the number ends.
abbrev pub Typed : Type 0
Typed =
    (point : Bool) (sign : Sign) (ds fs rest : List ℕ) → all_ascii_digits ds ≡ true → all_ascii_digits fs ≡ true → 0 < length ds → length ds + length fs ≤ 10 → (0 < length fs → point ≡ true) → Stops rest → reads point (mark sign ++ (ds ++ (fraction fs ++ rest))) ≡ Ok (record { value = signed (below sign) (amount 0 (ds ++ fs)); places = length fs; end = length (mark sign ++ (ds ++ fraction fs)) })

-- What is written of a number, anywhere in a text, reads as that number.
abbrev pub RoundTrip : Type 0
RoundTrip =
    (point : Bool) (z : ℤ) (before rest : List ℕ) → unsigned_abs z < 10 ^ 10 → Stops rest → reads point (drop (length before) (before ++ (decimal z ++ rest))) ≡ Ok (record { value = z; places = 0; end = length (decimal z) })
