-- Hexadecimal digits.
use Rattle.std.specs.Prelude.{ℕ, ◌+◌, ◌-◌, ◌*◌, ◌/◌, ◌%◌, cond, ◌&&◌, List, [], ◌∷◌, length, Some, None, codes, Option, ◌==◌, nat_le, slice_index}

-- What a digit stands for, in either case.
abbrev pub digit : ℕ → Option ℕ
digit b =
    cond (nat_le 48 b && nat_le b 57) (Some (b - 48)) (cond (nat_le 65 b && nat_le b 70) (Some (b - 55)) (cond (nat_le 97 b && nat_le b 102) (Some (b - 87)) None))

-- What digits make that follow the number n; None where a byte is no digit.
abbrev pub following : ℕ → List ℕ → Option ℕ
following n [] = Some n
following n (b ∷ bs) = elim (digit b) [ None ↦ None | Some d ↦ following (n * 16 + d) bs ]

-- A number of just so many digits.
abbrev pub digits : ℕ → List ℕ → Option ℕ
digits many bs = cond (length bs == many) (following 0 bs) None

-- The digit for a value, in upper case.
abbrev pub figure : ℕ → ℕ
figure v = slice_index (codes "0123456789ABCDEF") v

-- A word in four digits.
abbrev pub written : ℕ → List ℕ
written w = figure (w / 4096) ∷ figure (w / 256 % 16) ∷ figure (w / 16 % 16) ∷ figure (w % 16) ∷ []
