-- The form of numbers, and of lists of them, after a name; `at` is the place of the first byte. Assumes nothing.
use Rattle.std.specs.Prelude.{ℕ, ◌+◌, ◌-◌, Bool, true, false, cond, ◌||◌, List, [], ◌∷◌, length, drop, replicate, is_some, Some, None, Ok, Err, Option, Result, ◌==◌}
use Rattle.text.specs.declared.number.Number.{Number}
use Rattle.text.specs.Numbers.{reads}
use Rattle.command.specs.declared.fields.Field.{Field}
use Rattle.command.specs.declared.fields.Slot.{Slot}
use Rattle.command.specs.declared.request.Refusal.{Refusal}
use Rattle.command.specs.declared.request.Refusal.TheVariants.{Form}

-- The one, and then the other: the first refusal decides.
abbrev pub then : {A B : Type 0} → Result A Refusal → (A → Result B Refusal) → Result B Refusal
then (Ok a) f = f a
then (Err e) f = Err e

-- Nothing more may stand here.
abbrev pub closed : ℕ → List ℕ → Result (Unit {0}) Refusal
closed at [] = Ok tt
closed at (b ∷ bs) = Err (Form at)

-- What is asked for with nothing more.
abbrev pub only : {A : Type 0} → A → ℕ → List ℕ → Result A Refusal
only a at bs = then (closed at bs) (λ _. Ok a)

abbrev pub number_at : ℕ → Result Number ℕ → Result Field Refusal
number_at at (Ok n) = Ok (record { at = at; number = n })
number_at at (Err p) = Err (Form (at + p))

-- The number at the front; `point` says whether it may have a point.
abbrev pub leading : Bool → ℕ → List ℕ → Result Field Refusal
leading point at bs = number_at at (reads point bs)

-- One number and nothing more.
abbrev pub single : Bool → ℕ → List ℕ → Result Field Refusal
single point at bs = then (leading point at bs) (λ f. only f (at + f.number.end) (drop f.number.end bs))

-- A field is empty where the text ends, or at a comma.
abbrev pub empty : List ℕ → Bool
empty [] = true
empty (b ∷ bs) = b == 44

-- One field of a list, and how many bytes it takes.
abbrev pub slot : Bool → ℕ → List ℕ → Result Slot Refusal
slot point at bs =
    cond (empty bs) (Ok (record { field = None; width = 0 })) (then (leading point at bs) (λ f. Ok (record { field = Some f; width = f.number.end })))

-- For each axis its field, which may be empty.
abbrev pub Fields : Type 0
Fields = List (Option Field)

-- After a field: the end, where the `n` other axes are not named, or a comma and `more`.
abbrev pub after : (ℕ → List ℕ → Result Fields Refusal) → ℕ → ℕ → List ℕ → Result Fields Refusal
after more n at [] = Ok (replicate n None)
after more n at (b ∷ bs) = cond (b == 44) (more (at + 1) bs) (Err (Form at))

abbrev pub before : {A : Type 0} → A → Result (List A) Refusal → Result (List A) Refusal
before x r = then r (λ xs. Ok (x ∷ xs))

-- A field for each axis at the most; `points` says of each axis whether its number may have a point.
-- With no axis left, the comma before does not fit.
unfoldable pub fields : List Bool → ℕ → List ℕ → Result Fields Refusal
fields [] at bs = Err (Form (at - 1))
fields (p ∷ points) at bs =
    then (slot p at bs) (λ s. before s.field (after (fields points) (length points) (at + s.width) (drop s.width bs)))

abbrev pub any : Fields → Bool
any [] = false
any (f ∷ fs) = is_some f || any fs

-- A list names at least one axis: else a byte is missing at the text's end.
abbrev pub list : List Bool → ℕ → List ℕ → Result Fields Refusal
list points at bs = then (fields points at bs) (λ fs. cond (any fs) (Ok fs) (Err (Form (at + length bs))))
