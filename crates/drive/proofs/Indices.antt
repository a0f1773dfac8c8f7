-- Indices of axes, and loops over them: the one place that knows how many there are. Assumes nothing.
use Rattle.std.proofs.Common.{◌≡◌, ℕ, zero, suc, ◌+◌, ◌<◌, Bool, true, ◌&&◌, eqb, List, length, get_or, Some, sym, refl, ap, ◌∙◌, ⊎_elim, add-one, arith}
use denote.Enum.Declared.{tag_of}
use Rattle.std.proofs.lemmas.List.FromFn.{get_or-map-range_with_len, fill_by_all}
use Rattle.std.proofs.lemmas.List.{get_or_default}
use Rattle.std.proofs.lemmas.Option.{slice_get_past}
use Rattle.std.proofs.lemmas.Bool.{cases_lt}
use Rattle.std.proofs.lemmas.Bool.Decides.{Decides-eqb, Decides-below_and}
use Rattle.drive.specs.contracts.axis.Axis.{the_type}
use Rattle.drive.specs.declared.axis.Axis.{Axis}
use Rattle.drive.specs.declared.axis.Axis.TheVariants.{X, Y, Z, T, U, V, R, S}
use Rattle.drive.specs.Axes.{in_order, axes, index, axis_at, each, through}

-- the number as the code has it
pub axes_is : axes ≡ 8
unfolding axes
axes_is = refl

-- the index as the code has it; and the list has each axis at its index
pub listed : (a : Axis) → (tag_of the_type a ≡ index a) × (axis_at (index a) ≡ Some a)
listed X = (refl, refl)
listed Y = (refl, refl)
listed Z = (refl, refl)
listed T = (refl, refl)
listed U = (refl, refl)
listed V = (refl, refl)
listed R = (refl, refl)
listed S = (refl, refl)

pub index_small : (a : Axis) → index a < axes
unfolding axes
index_small a =
    ⊎_elim
    (λ h. h)
    (λ h. let none = sym (listed a).1 ∙ slice_get_past in_order (index a) h in let z : ◌≡◌ {A = ℕ} 0 1 = cc in omega arith)
    (cases_lt (index a) (length in_order))

abbrev placed : ℕ → Bool
placed zero = true
placed (suc n) = eqb (index (get_or in_order n X)) n && placed n

-- what stands in the list at i has the index i
pub index_of : (i : ℕ) (d : Axis) → i < axes → index (get_or in_order i d) ≡ i
unfolding axes
index_of i d h =
    ap index (get_or_default in_order i d X h) ∙ (Decides-below_and _ (λ k. index (get_or in_order k X) ≡ k) placed (λ k. Decides-eqb (index (get_or in_order k X)) k) refl (λ _. refl) axes).0 refl i h

module _ {A : Type 0} (f : ℕ → A) where
  pub get_or-each : (k : ℕ) (d : A) → k < axes → get_or (each f) k d ≡ f k
  unfolding each
  get_or-each k d h = get_or-map-range_with_len f 0 axes k k d h (omega arith)

  -- a list that has f k at every axis k
  pub each_all : (xs : List A) (d : A) → length xs ≡ axes → ((k : ℕ) → k < axes → get_or xs k d ≡ f k) → xs ≡ each f
  unfolding each
  each_all xs d full h = fill_by_all f xs axes d full h

-- a loop that does f at each axis in turn: its start, its step and its end
module _ {B : Type 0} (f : B → ℕ → B) (start : B) where
  pub through_none : start ≡ through f 0 start
  unfolding through
  through_none = refl

  pub through_more : (b e : B) (i k : ℕ) → b ≡ through f i start → k ≡ i → e ≡ f b k → e ≡ through f (i + 1) start
  unfolding through
  through_more b e i k before here on = rw add-one (on ∙ ap (λ x. f x k) before ∙ ap (f (through f i start)) here)
