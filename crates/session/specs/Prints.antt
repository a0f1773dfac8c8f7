-- What a call leaves, and what is printed of it. Assumes nothing.
use Rattle.std.specs.Prelude.{◌≡◌, ℕ, Result, Vec}
use Rattle.std.specs.declared.alloc.AllocError.{AllocError}
use Rattle.std.specs.declared.alloc.Global.{Global}
use Rattle.model.specs.Controller.{Controller, After}
use Rattle.listing.specs.Writing.{Adds}
use Rattle.listing.specs.Printing.{printed}

-- The controller is as the call left it, and, where memory did not fail, just what the call told was printed.
pub record Made {S : Type 0} (a : After S) (c : Controller S) (r : Result (Unit {0}) AllocError) (before after : Vec ℕ Global) : Type 0 where
  pub now : c ≡ a.now
  pub prints : Adds r before after (printed a.outcome)
