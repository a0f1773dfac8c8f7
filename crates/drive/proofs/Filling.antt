-- A loop that writes f k at each axis k. Assumes nothing.
use Rattle.std.proofs.Common.{◌≡◌, ℕ, zero, suc, ◌+◌, ◌<◌, ◌≤◌, List, [], ◌∷◌, length, get_or, set, sym, ◌∙◌, subst, ⊎_elim, arith}
use denote.Param.Members.{Mut}
use Rattle.std.specs.Array.{IsFromFnResultFrom, IsFromFnResult}
use Rattle.std.specs.Fn.{Called}
use Rattle.std.proofs.lemmas.Bool.{cases_eq}
use Rattle.std.proofs.lemmas.List.Edits.{fill_by_more}
use Rattle.std.proofs.lemmas.List.{length-set}
use Rattle.drive.specs.Axes.{axes, each}
use Rattle.drive.proofs.Indices.{axes_is, each_all}

module _ {A : Type 0} (f : ℕ → A) (d : A) where
  -- those below i have it
  abbrev pub Filled : List A → ℕ → Type 0
  Filled xs i = (length xs ≡ axes) × ((k : ℕ) → k < i → get_or xs k d ≡ f k)

  pub filled_none : (xs : List A) → length xs ≡ axes → Filled xs 0
  filled_none xs full = (full, λ k h. let z : ⊥ = omega arith in absurd z)

  pub filled_more : (xs : List A) (i : ℕ) (x : A) → i < axes → Filled xs i → x ≡ f i → Filled (set xs i x) (i + 1)
  filled_more xs i x h w made =
      let lt : i < length xs = omega (arith, w.0) in (
        length-set xs i x ∙ w.0,
        subst (λ y. (k : ℕ) → k < i + 1 → get_or (set xs i y) k d ≡ f k) (sym made) (fill_by_more f xs i d lt w.1),
      )

  -- the index is an axis's, and not the counter
  pub filled_at : (xs : List A) (i j : ℕ) (x : A) → i < axes → j ≡ i → Filled xs i → x ≡ f i → Filled (set xs j x) (i + 1)
  filled_at xs i j x h e w made =
      let P : ℕ → Type 0 = λ n. Filled (set xs n x) (i + 1) in subst P (sym e) (filled_more xs i x h w made)

  pub filled_each : (xs : List A) (i : ℕ) → axes ≤ i → Filled xs i → xs ≡ each f
  filled_each xs i h w = each_all f xs d w.0 (λ k l. w.1 k (omega arith))

-- an array that a closure gave, called at each index in turn, where the calls change no capture
module _ {F B : Type 0} (g : Mut F (ℕ × Unit {0}) B) (f : F) (h : ℕ → B) (gives : (i : ℕ) (y : B) (q : F) → i < axes → Called g f (i, tt) y q → (y ≡ h i) × (q ≡ f)) where
  turns_give : (ys : List B) (d : B) (n i k : ℕ) → i + n ≤ axes → IsFromFnResultFrom g f ys i n → i ≤ k → k < i + n → get_or ys k d ≡ h k
  turns_give ys d zero i k fits r low high = let z : ⊥ = omega arith in absurd z
  turns_give ys d (suc n) i k fits (q, y, at, call, rest) low high =
      let e = gives i y q (omega arith) call in
      ⊎_elim
      (λ here. subst (λ j. get_or ys j d ≡ h j) (sym here) (at.1 d ∙ e.0))
      (λ ne. turns_give ys d n (i + 1) k (omega arith) (subst (λ p. IsFromFnResultFrom g p ys (i + 1) n) e.1 rest) (omega arith) (omega arith))
      (cases_eq k i)

  pub from_fn_each : (ys : List B) → IsFromFnResult g f ys 8 → ys ≡ each h
  from_fn_each [] r = let z : ⊥ = omega (arith, r.long) in absurd z
  from_fn_each (y ∷ ys) r = each_all h (y ∷ ys) y (r.long ∙ sym axes_is) (λ k l. turns_give (y ∷ ys) y 8 0 k (omega (arith, axes_is)) r.each (omega arith) (omega (arith, axes_is)))
