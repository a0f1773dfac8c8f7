-- Names at the front of a text. A table has a row for each name, in their order: the name, and its bytes with letters in upper case.
use Rattle.std.specs.Prelude.{ℕ, suc, ◌-◌, max, Bool, true, false, cond, ◌&&◌, List, [], ◌∷◌, map, length, drop, Some, None, Ok, Err, Option, Result, ◌==◌, nat_le}
use Rattle.std.specs.Option.{option_map, ok_or}
use Rattle.names.specs.declared.Named.{Named}

abbrev pub Row : Type 0 → Type 0
Row N = N × List ℕ

-- the rows of these names
abbrev pub rows : {N : Type 0} → (N → List ℕ) → List N → List (Row N)
rows letters = map (λ n. (n, letters n))

-- a letter in upper case, any other byte as it is
abbrev pub upper : ℕ → ℕ
upper b = cond (nat_le 97 b && nat_le b 122) (b - 32) b

-- the bytes ns stand at the front of bs
abbrev pub begins : List ℕ → List ℕ → Bool
begins [] bs = true
begins (n ∷ ns) [] = false
begins (n ∷ ns) (b ∷ bs) = b == n && begins ns bs

-- how many of the bytes ns stand at the front of bs
abbrev pub along : List ℕ → List ℕ → ℕ
along [] bs = 0
along (n ∷ ns) [] = 0
along (n ∷ ns) (b ∷ bs) = cond (b == n) (suc (along ns bs)) 0

-- the first row whose name stands at the front of bs
abbrev pub leading : {N : Type 0} → List (Row N) → List ℕ → Option (Row N)
leading [] bs = None
leading (r ∷ rows) bs = cond (begins r.1 bs) (Some r) (leading rows bs)

-- how far bs goes along some name
abbrev pub reach : {N : Type 0} → List (Row N) → List ℕ → ℕ
reach [] bs = 0
reach (r ∷ rows) bs = max (along r.1 bs) (reach rows bs)

-- the name of the row, and what follows it in the text
abbrev pub cut : {N : Type 0} → List ℕ → Row N → N × List ℕ
cut text r = (r.0, drop (length r.1) text)

-- the name at the front of the text, in letters of either case, and the operands after it,
-- or else the place of the first byte with which no name goes on
unfoldable pub named : {N : Type 0} → List (Row N) → List ℕ → Result (N × List ℕ) ℕ
named table text = ok_or (option_map (cut text) (leading table (map upper text))) (reach table (map upper text))

-- what a call gives back
abbrev pub seen : {N : Type 0} → Result (Named N) ℕ → Result (N × List ℕ) ℕ
seen (Ok r) = Ok (r.name, r.rest.now)
seen (Err place) = Err place
