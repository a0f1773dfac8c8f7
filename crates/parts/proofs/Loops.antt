-- A loop that does one axis's part after the other, and writes down what each tells.
use Rattle.std.proofs.Common.{◌≡◌, ℕ, suc, ◌+◌, ◌<◌, List, [], ◌∷◌, ◌++◌, length, get_or, take, set, replicate, sym, refl, ap, ◌∙◌, ap₂, add-one, arith, take-suc-set}
use Rattle.std.proofs.lemmas.List.{take_all, same_lists, get_or-replicate, length-replicate}
use Rattle.std.proofs.lemmas.Bool.Decides.{nat_tests}
use Rattle.std.specs.Array.{IsFromFnResult}
use Rattle.std.specs.Fn.{Mut, Called}
use Rattle.drive.specs.Axes.{axes}
use Rattle.drive.proofs.Indices.{axes_is}
use Rattle.model.specs.Machine.{Machine, Part, each}
use Rattle.parts.specs.Views.{if_taken}

module _ {S R : Type 0} (f : ℕ → Machine S → Part S R) (start : Machine S) where
  -- The axes below `n` had their parts: `m` is the machine after these, and the front of `rs` what they told.
  abbrev pub Done : ℕ → Machine S → List R → Type 0
  Done n m rs = ◌≡◌ {A = Part S (List R)} (record { now = m; tells = take n rs }) (each n f start)

  pub each_none : (rs : List R) → Done 0 start rs
  unfolding each
  each_none rs = refl

  -- `k` is the axis's index, and `i` as the code has it
  pub each_more : (n k i : ℕ) (m : Machine S) (p : Part S R) (rs : List R) → k ≡ n → i ≡ k → n < length rs → Done n m rs → p ≡ f k m → Done (n + 1) p.now (set rs i p.tells)
  unfolding each
  each_more n k i m p rs here at room before is =
      let p' : p ≡ f n (each n f start).now = is ∙ ap₂ f here (ap (λ d. d.now) before) in
      rw add-one (λ j. record {
        now = (p' j).now;
        tells = (ap (λ x. take (suc n) (set rs x p.tells)) (at ∙ here) ∙ take-suc-set rs n p.tells room ∙ (λ l. (before l).tells ++ ((p' l).tells ∷ []))) j;
      })

  pub each_all : (i : ℕ) (m : Machine S) (rs : List R) → i ≡ axes → length rs ≡ axes → Done i m rs → ◌≡◌ {A = Part S (List R)} (record { now = m; tells = rs }) (each axes f start)
  each_all i m rs end full done =
      ap (λ l. record { now = m; tells = l }) (sym (take_all i rs (omega arith))) ∙ done ∙ ap (λ n. each n f start) end

-- A list of what calls of a closure give at each axis, each of them the same.
pub each_same : {F A : Type 0} (g : Mut F (ℕ × Unit {0}) A) (f : F) (xs : List A) (a : A) →
    IsFromFnResult g f xs 8 → ((k : ℕ) (p q : F) (x : A) → Called g p (k, tt) x q → x ≡ a) → xs ≡ replicate axes a
each_same g f xs a made gives =
    same_lists xs (replicate axes a) (made.long ∙ sym axes_is ∙ sym (length-replicate axes a))
    (λ k d h.
    let low : k < 8 = omega (arith, made.long) in
    let here = made.at k d low in
    gives k here.0 here.1 (get_or xs k d) here.2 ∙ sym (get_or-replicate axes k a d (omega (arith, axes_is))))

-- A sheet with a row for each axis is taken, and any other is not.
module _ {A : Type 0} (n : ℕ) (taken refused : A) where
  pub is_taken : n ≡ 8 → taken ≡ if_taken n taken refused
  is_taken h = grind (arith, nat_tests, axes_is)

  pub not_taken : (n ≡ 8 → ⊥) → refused ≡ if_taken n taken refused
  not_taken h = grind (arith, nat_tests, axes_is)

pub ruleset sheets = (is_taken, not_taken)
