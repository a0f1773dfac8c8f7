-- Bytes at the front of a list that are separators, or are none. Assumes nothing.
use Rattle.std.proofs.Common.{◌≡◌, ℕ, ◌<◌, Bool, true, false, not, List, [], ◌∷◌, length, get_or, take, sym, refl, ⊎_elim, one-add}
use mathlib.Core.Bool.{beq}
use Rattle.std.specs.List.{AllByRecursion}
use Rattle.std.proofs.lemmas.Bool.{cases_Bool}
use Rattle.std.proofs.lemmas.List.Sums.{prefix_len_stops}
use Rattle.text.specs.Blocks.{separates, run}

same : (a k : Bool) → beq a k ≡ true → a ≡ k
same true true e = refl
same false false e = refl
same true false e = sym e
same false true e = e

other : (a k : Bool) → beq a k ≡ false → a ≡ not k
other true true e = e
other false false e = sym e
other true false e = refl
other false true e = refl

module _ (k : Bool) where
  pub run_all : (bs : List ℕ) → AllByRecursion (λ b. separates b ≡ k) (take (run k bs) bs)
  run_all [] = tt
  run_all (b ∷ bs) = ⊎_elim (λ t. rw one-add (rw t (same (separates b) k t, run_all bs))) (λ f. rw f tt) (cases_Bool (beq (separates b) k))

  pub run_ends : (bs : List ℕ) → run k bs < length bs → separates (get_or bs (run k bs) 0) ≡ not k
  run_ends bs h = other _ k (prefix_len_stops (λ b. beq (separates b) k) bs 0 h)
