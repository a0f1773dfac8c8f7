-- The ratio drive keeps the laws where the drive below does. Assumes nothing.
use Rattle.std.specs.Prelude.{◌≡◌, ℕ, ◌<◌, true, false, ℤ, ◌*ℤ◌, Ok, FitsSigned, int_div, refl}
use Rattle.std.proofs.Common.{ap, ◌∙◌, arith, to_z, of_z}
use Rattle.std.specs.Int.{w64}
use Rattle.std.proofs.lemmas.Int.{to_z-of_z, ints}
use Rattle.drive.specs.Axes.{axes}
use Rattle.drive.specs.Drive.{Ops, reaches, reply}
use Rattle.drive.specs.Range.{InRange}
use Rattle.drive.proofs.Frames.{ok_tests}
use Rattle.drive.specs.Laws.{Keeps, Aimed}
use Rattle.drive.proofs.Orders.{within_true, true_within}
use Rattle.drives.specs.Ratio.{Geared, geared, with_below, floored, ceiled}
use Rattle.drives.specs.Bounds.{steps_back}
use Rattle.drives.specs.Quotients.{quot_mul, quot_range, floor_range, ceil_range, quot_between, reach_below}

module _ {S : Type 0} (o : Ops S) (s : Geared S) where
  pub below_reaches : (k : ℕ) (t : ℤ) → reaches (geared o) s k t ≡ true → reaches o s.below k (t *ℤ s.steps.value) ≡ true
  below_reaches k t e = true_within _ _ _ (reach_below s.steps.value s.steps.ok.0 _ _ t (within_true _ _ t e))

  -- an axis that is aimed below is aimed above
  lifted : (b : S) (k : ℕ) (g t : ℤ) → int_div g s.steps.value ≡ t → Aimed o s.below b k g → Aimed (geared o) s (with_below s b) k t
  lifted b k g t e a =
      let m = s.steps.value in
      record {
        position = ap (λ x. int_div x m) a.position;
        target = ap (λ x. int_div x m) a.target ∙ e;
        least = ap (λ x. ceiled x m) a.least;
        greatest = ap (λ x. floored x m) a.greatest;
        down = a.down;
      }

pub geared_keeps : {S : Type 0} {o : Ops S} → Keeps o → Keeps (geared o)
geared_keeps {o = o} K = record {
  sound = λ s k h.
      let b = K.sound s.below k h in
      let m = s.steps.value in
      let p = s.steps.ok.0 in
      record {
        position = quot_range m p _ b.position;
        target = quot_range m p _ b.target;
        least = ceil_range m p _ b.least;
        greatest = floor_range m p _ b.greatest;
      };
  begun_at = λ s k t h up reach. lifted o s _ k _ t (quot_mul s.steps.value s.steps.ok.0 t) (K.begun_at s.below k _ h up (below_reaches o s k t reach));
  begun_off = λ s k j t h hj ne up reach. lifted o s _ j _ _ refl (K.begun_off s.below k j _ h hj ne up (below_reaches o s k t reach));
  halted_at = λ s k h. lifted o s _ k _ _ refl (K.halted_at s.below k h);
  halted_off = λ s k j h hj ne. lifted o s _ j _ _ refl (K.halted_off s.below k j h hj ne);
  advanced_at = λ s readings w k h.
      let b = K.advanced_at s.below readings w k h in
      let m = s.steps.value in
      record {
        position = quot_between m s.steps.ok.0 _ _ _ b.position;
        target = ap (λ x. int_div x m) b.target;
        least = ap (λ x. ceiled x m) b.least;
        greatest = ap (λ x. floored x m) b.greatest;
      };
}

-- an admitted target: its product is in range and admitted below
module _ {S : Type 0} {o : Ops S} (K : Keeps o) (s : Geared S) (k : ℕ) (small : k < axes) (t : ℤ) (admitted : reply (geared o) s k t ≡ Ok tt) where
  tests : (o.down s.below k ≡ false) × (reaches o s.below k (t *ℤ s.steps.value) ≡ true)
  tests = let e = ok_tests (o.down s.below k) (reaches (geared o) s k t) admitted in (e.0, below_reaches o s k t e.1)

  pub admitted_below : reply o s.below k (t *ℤ s.steps.value) ≡ Ok tt
  admitted_below = rw (tests.0, tests.1) refl

  product_range : InRange (t *ℤ s.steps.value)
  product_range =
      let b = K.sound s.below k small in
      let w = within_true (o.least s.below k) (o.greatest s.below k) (t *ℤ s.steps.value) tests.1 in
      (omega (arith, ints, b.least.0, w.0), omega (arith, ints, b.greatest.1, w.1))

  -- the product as the code has it
  module _ (f : FitsSigned w64 t) where
    pub product_fits : FitsSigned w64 (to_z w64 (of_z w64 t) *ℤ to_z w64 (of_z w64 s.steps.value))
    product_fits = rw (to_z-of_z w64 t f, steps_back s.steps) (let r = product_range in omega (arith, ints))

    pub product_back : to_z w64 (of_z w64 (to_z w64 (of_z w64 t) *ℤ to_z w64 (of_z w64 s.steps.value))) ≡ t *ℤ s.steps.value
    product_back = rw (to_z-of_z w64 t f, steps_back s.steps) (let r = product_range in omega (arith, ints))
