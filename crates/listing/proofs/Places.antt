-- A list, all of whose items are told place by place. Assumes nothing.
use Rattle.std.proofs.Common.{◌≡◌, ℕ, zero, suc, ◌+◌, List, [], ◌∷◌, length, get_or, drop, ap, ◌∙◌, arith, drop-cons}
use Rattle.std.proofs.lemmas.List.{drop_all}

module _ {X : Type 0} (d : X) where
  -- The items at n places from i on.
  abbrev pub places : ℕ → ℕ → List X → List X
  places zero i xs = []
  places (suc n) i xs = get_or xs i d ∷ places n (suc i) xs

  listed : (n i : ℕ) (xs : List X) → length xs ≡ i + n → drop i xs ≡ places n i xs
  listed zero i xs e = drop_all i xs (omega arith)
  listed (suc n) i xs e = drop-cons xs i d (omega arith) ∙ ap (λ l. get_or xs i d ∷ l) (listed n (suc i) xs (omega arith))

  pub at_places : {Y : Type 0} (F : List X → Y) (xs : List X) (n : ℕ) → length xs ≡ n → F xs ≡ F (places n 0 xs)
  at_places F xs n e = ap F (listed n 0 xs (omega arith))
