-- What a first-error record holds. Assumes nothing.
use Rattle.std.specs.Prelude.{ℕ, List, [], ◌∷◌, take}

-- after a bad text: the first one is kept, up to the most bytes that a text has
abbrev pub kept : List ℕ → List ℕ → List ℕ
kept [] text = take 160 text
kept (b ∷ bs) text = b ∷ bs
