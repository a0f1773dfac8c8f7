-- What a ring of places holds.
use Rattle.std.specs.Prelude.{ℕ, List, ◌++◌, take, drop}

-- `len` items from the place `head` on, going on at place 0 past the last place; the first of them stands at the head.
abbrev pub held : {X : Type 0} → List X → ℕ → ℕ → List X
held slots head len = take len (drop head slots ++ take head slots)
