-- What `map` gives of an array, where each call of the closure gives what `of` does, and leaves the closure as it was. Assumes nothing.
use Rattle.std.proofs.Common.{◌≡◌, ℕ, zero, suc, ◌+◌, ◌<◌, List, map, length, get_or, sym, ap, ◌∙◌, subst, zero-add, arith}
use lib.ListN.{length-map}
use Rattle.std.specs.Fn.{Mut, Called}
use Rattle.std.specs.Array.{MapsFrom, IsMapOf}
use Rattle.std.proofs.lemmas.List.{same_lists, get_or-map}

module _ {F A B : Type 0} (g : Mut F (A × Unit {0}) B) (f : F) (of : A → B) (stays : (a : A) (b : B) (q : F) → Called g f (a, tt) b q → (b ≡ of a) × (q ≡ f)) (d : A) where
  mapped_at : (xs : List A) (ys : List B) (i n k j : ℕ) (e : B) → j ≡ i + k → k < n → MapsFrom g f xs ys i n → get_or ys j e ≡ of (get_or xs j d)
  mapped_at xs ys i zero k j e is h m = absurd (omega arith)
  mapped_at xs ys i (suc n) zero j e is h m =
      let here : j ≡ i = omega arith in
      ap (λ t. get_or ys t e) here ∙ m.4.1 e ∙ (stays _ _ _ m.5).0 ∙ ap of (sym (m.3.1 d)) ∙ ap (λ t. of (get_or xs t d)) (sym here)
  mapped_at xs ys i (suc n) (suc k) j e is h m =
      mapped_at xs ys (i + 1) n k j e (omega arith) (omega arith) (subst (λ p. MapsFrom g p xs ys (i + 1) n) (stays _ _ _ m.5).1 m.6)

  pub mapped : (xs : List A) (ys : List B) (n : ℕ) → length xs ≡ n → IsMapOf g f xs ys n → ys ≡ map of xs
  mapped xs ys n size m =
      same_lists ys (map of xs) (m.long ∙ sym (length-map xs of ∙ size))
      (λ k e h. mapped_at xs ys 0 n k k e (sym (zero-add k)) (omega (arith, m.long)) m.each ∙ sym (get_or-map of xs k d e (omega (arith, m.long))))
