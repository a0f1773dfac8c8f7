-- What others use of a table: no name begins another, and what follows from that alone.
use Rattle.std.specs.Prelude.{◌≡◌, ℕ, zero, suc, ◌<◌, ◌≤◌, true, false, List, [], ◌∷◌, map, length, take, Ok, Err}
use Rattle.names.specs.Tables.{Row, upper, begins, cut, named}

-- the row r stands in the table at the place i
abbrev pub Stands : {N : Type 0} → List (Row N) → ℕ → Row N → Type 0
Stands [] i r = ⊥
Stands (s ∷ rows) zero r = s ≡ r
Stands (s ∷ rows) (suc i) r = Stands rows i r

-- no name begins or equals another
abbrev pub Apart : {N : Type 0} → List (Row N) → Type 0
Apart {N} table = (i j : ℕ) (r s : Row N) → Stands table i r → Stands table j s → begins r.1 s.1 ≡ true → i ≡ j

-- each name stands, with its bytes, in the row that its number says
abbrev pub InOrder : {N : Type 0} → List (Row N) → (N → ℕ) → (N → List ℕ) → Type 0
InOrder {N} table index letters = (n : N) → Stands table (index n) (n, letters n)

-- no name stands at the front of bs
abbrev pub Nameless : {N : Type 0} → List (Row N) → List ℕ → Type 0
Nameless {N} table bs = (i : ℕ) (r : Row N) → Stands table i r → begins r.1 bs ≡ false

-- some name goes on from these bytes
abbrev pub GoesOn : {N : Type 0} → List (Row N) → List ℕ → Type 0
GoesOn {N} table front = (i : ℕ) × (r : Row N) × Stands table i r × (begins front r.1 ≡ true)

-- a name goes on up to p, and none does with the byte at p; or bs ends there
abbrev pub Place : {N : Type 0} → List (Row N) → List ℕ → ℕ → Type 0
Place table bs p = (p ≤ length bs) × GoesOn table (take p bs) × (p < length bs → GoesOn table (take (suc p) bs) → ⊥)

pub record Lawful {N : Type 0} (table : List (Row N)) : Type 0 where
  -- a text has at most one name
  pub one : (bs : List ℕ) (i j : ℕ) (r s : Row N) → Stands table i r → Stands table j s → begins r.1 bs ≡ true → begins s.1 bs ≡ true → i ≡ j
  -- the name that stands at its front is the one found, wherever its row stands
  pub finds : (text : List ℕ) (i : ℕ) (r : Row N) → Stands table i r → begins r.1 (map upper text) ≡ true → named table text ≡ Ok (cut text r)
  -- and no other is found
  pub found : (text : List ℕ) (x : N × List ℕ) → named table text ≡ Ok x → (i : ℕ) × (r : Row N) × Stands table i r × (begins r.1 (map upper text) ≡ true) × (x ≡ cut text r)
  -- a refusal says that there is no name, and gives the one place up to which a name goes on
  pub refused : (text : List ℕ) (p : ℕ) → named table text ≡ Err p → Nameless table (map upper text) × Place table (map upper text) p
  pub refuses : (text : List ℕ) (p : ℕ) → Nameless table (map upper text) → Place table (map upper text) p → named table text ≡ Err p

-- the laws, of any table with a name in it
abbrev pub ApartIsLawful : Type 0 → Type 0
ApartIsLawful N = (table : List (Row N)) → 0 < length table → Apart table → Lawful table
