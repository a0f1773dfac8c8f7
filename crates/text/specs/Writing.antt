-- What is written into a block of an answer. Assumes nothing.
use Rattle.std.specs.Prelude.{ℕ, suc, List, [], ◌∷◌, ℤ, slice_set}
use Rattle.std.specs.Fmt as written

-- in base ten, with no plus and no needless zero
abbrev pub digits : ℕ → List ℕ
digits n = written.decimal n

abbrev pub decimal : ℤ → List ℕ
decimal z = written.signed_decimal z

-- bytes stored into a block from an offset on, one after the other; those past its end are not stored
abbrev pub put : ℕ → List ℕ → List ℕ → List ℕ
put at [] block = block
put at (b ∷ bs) block = put (suc at) bs (slice_set block at b)

-- bytes stored at the front of a block
abbrev pub over : List ℕ → List ℕ → List ℕ
over bs block = put 0 bs block
