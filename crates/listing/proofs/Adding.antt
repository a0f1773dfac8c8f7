-- What is printed in parts. Assumes nothing.
use Rattle.std.proofs.Common.{◌≡◌, ℕ, List, ◌++◌, Ok, Err, vec_items, Result, Vec, ap, ◌∙◌, append_assoc}
use Rattle.std.specs.declared.alloc.AllocError.{AllocError}
use Rattle.std.specs.declared.alloc.Global.{Global}
use Rattle.listing.specs.Writing.{Adds}

-- One part after another.
pub adds_more : (r : Result (Unit {0}) AllocError) (out one two : Vec ℕ Global) (part more : List ℕ) → vec_items one ≡ vec_items out ++ part → Adds r one two more → Adds r out two (part ++ more)
adds_more (Ok _) out one two part more e f = f ∙ ap (λ l. l ++ more) e ∙ append_assoc (vec_items out) part more
adds_more (Err _) out one two part more e f = tt
