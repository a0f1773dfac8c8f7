-- The same by the text's places, as a match on its leading bytes has it.
use Rattle.std.specs.Prelude.{ℕ, suc, ◌-◌, max, Bool, true, cond, ◌&&◌, List, [], ◌∷◌, length, take, drop, Some, None, Option, ◌==◌, nat_lt, slice_index}
use Rattle.std.specs.Borrow.{Bor}
use Rattle.names.specs.Tables.{Row, upper}

-- the text has the byte n at i, in either case
abbrev pub has_at : ℕ → ℕ → List ℕ → Bool
has_at n i text = nat_lt i (length text) && upper (slice_index text i) == n

-- the text has the bytes ns from i on
abbrev pub has : List ℕ → ℕ → List ℕ → Bool
has [] i text = true
has (n ∷ ns) i text = has_at n i text && has ns (suc i) text

-- where the text that has the bytes before i ceases to go along ns
abbrev pub end : List ℕ → ℕ → List ℕ → ℕ
end [] i text = i
end (n ∷ ns) i text = cond (has_at n i text) (end ns (suc i) text) i

-- the bytes from i to the end, as the pattern `rest @ ..` gives them
abbrev pub after : ℕ → List ℕ → List ℕ
after i text = take (length text - i) (drop i text)

-- the name of the first row that the text has, and the operands after it
abbrev pub lead : {N : Type 0} → List (Row N) → List ℕ → Option (N × List ℕ)
lead [] text = None
lead (r ∷ rows) text = cond (has r.1 0 text) (Some (r.0, after (length r.1) text)) (lead rows text)

-- a name without its last byte
abbrev pub short : List ℕ → List ℕ
short [] = []
short (n ∷ []) = []
short (n ∷ m ∷ ns) = n ∷ short (m ∷ ns)

-- how far the text goes along some name, its last byte aside
abbrev pub stop : {N : Type 0} → List (Row N) → List ℕ → ℕ
stop [] text = 0
stop (r ∷ rows) text = max (end (short r.1) 0 text) (stop rows text)

-- what a match gives
abbrev pub held : {N : Type 0} → Option (N × Bor (List ℕ)) → Option (N × List ℕ)
held (Some r) = Some (r.0, r.1.now)
held None = None
