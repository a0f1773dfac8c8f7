-- What a call adds to what is printed.
use Rattle.std.specs.Prelude.{◌≡◌, ℕ, List, ◌++◌, vec_items, Result, Vec, OnOk}
use Rattle.std.specs.declared.alloc.AllocError.{AllocError}
use Rattle.std.specs.declared.alloc.Global.{Global}

-- Where memory did not fail, just these bytes were added at the end.
abbrev pub Adds : Result (Unit {0}) AllocError → Vec ℕ Global → Vec ℕ Global → List ℕ → Type 0
Adds r before after bytes = OnOk r (vec_items after ≡ vec_items before ++ bytes)
