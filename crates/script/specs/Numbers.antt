-- The numbers of a line.
use Rattle.std.specs.Prelude.{ℕ, Bool, false, cond, List, [], ◌∷◌, length, ℤ, Some, None, Ok, Err, Option, Result, ◌==◌, nat_le, unsigned_abs}
use Rattle.std.specs.Borrow.{Bor}
use Rattle.std.specs.Option.{option_map}
use Rattle.text.specs.declared.number.Number.{Number}
use Rattle.text.specs.Numbers.{negative, reads}
use Rattle.script.specs.Words.{parted}

-- The one, and then the other.
abbrev pub then : {A B : Type 0} → Option A → (A → Option B) → Option B
then None f = None
then (Some x) f = f x

abbrev pub plus : List ℕ → Bool
plus [] = false
plus (b ∷ bs) = b == 43

-- A number that takes all the bytes.
abbrev pub whole : ℕ → Result Number ℕ → Option ℤ
whole long (Ok n) = cond (n.end == long) (Some n.value) None
whole long (Err place) = None

-- One to ten digits, with a minus before them or not, and nothing more.
abbrev pub number : List ℕ → Option ℤ
number word = cond (plus word) None (whole (length word) (reads false word))

-- A number, and what follows the space after it.
abbrev pub leading : List ℕ → Option (ℤ × List ℕ)
leading text = then (number (parted text).0) (λ n. option_map (λ rest. (n, rest)) (parted text).1)

abbrev pub held : Option (ℤ × Bor (List ℕ)) → Option (ℤ × List ℕ)
held o = option_map (λ p. (p.0, p.1.now)) o

abbrev pub at_most : ℕ → ℕ → Option ℕ
at_most most n = cond (nat_le n most) (Some n) None

-- One to ten digits alone, which make no more than the most.
abbrev pub size : ℕ → List ℕ → Option ℕ
size most word = cond (negative word) None (then (number word) (λ n. at_most most (unsigned_abs n)))

-- Every word is a number.
abbrev pub numbers : List (List ℕ) → Option (List ℤ)
numbers [] = Some []
numbers (w ∷ ws) = then (number w) (λ n. option_map (λ ns. n ∷ ns) (numbers ws))
