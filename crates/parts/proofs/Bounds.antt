-- What holds at each index still holds when one element is replaced.
use Rattle.std.proofs.Common.{ℕ, zero, suc, List, [], ◌∷◌, get_or, set}

module _ {A : Type 0} (P : A → Type 0) (d : A) where
  pub each_put : (xs : List A) (i : ℕ) (x : A) → ((k : ℕ) → P (get_or xs k d)) → P x → (k : ℕ) → P (get_or (set xs i x) k d)
  each_put [] i x all here k = all k
  each_put (y ∷ ys) zero x all here zero = here
  each_put (y ∷ ys) zero x all here (suc k) = all (suc k)
  each_put (y ∷ ys) (suc i) x all here zero = all zero
  each_put (y ∷ ys) (suc i) x all here (suc k) = each_put ys i x (λ j. all (suc j)) here k
