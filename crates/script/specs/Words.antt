-- The words of a line, with single spaces between them.
use Rattle.std.specs.Prelude.{ℕ, ◌<◌, cond, List, [], ◌∷◌, length, Some, None, Option, ◌==◌}

-- The first word, and what follows the space after it, if there is one.
abbrev pub parted : List ℕ → List ℕ × Option (List ℕ)
parted [] = ([], None)
parted (b ∷ bs) = cond (b == 32) ([], Some bs) (b ∷ (parted bs).0, (parted bs).1)

abbrev pub longer : ℕ → List (List ℕ) → List (List ℕ)
longer b [] = (b ∷ []) ∷ []
longer b (w ∷ ws) = (b ∷ w) ∷ ws

-- All the words. One is empty between two spaces, before a first and after a last one.
abbrev pub words : List ℕ → List (List ℕ)
words [] = [] ∷ []
words (b ∷ bs) = cond (b == 32) ([] ∷ words bs) (longer b (words bs))

-- What is left is shorter than the whole.
abbrev pub Shorter : Option (List ℕ) → List ℕ → Type 0
Shorter None text = Unit {0}
Shorter (Some rest) text = length rest < length text
