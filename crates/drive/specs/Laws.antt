-- The laws of a drive: the range of its numbers, what each of its functions leaves alone, and where an advance may lead. Assumes nothing.
use Rattle.std.specs.Prelude.{◌≡◌, ℕ, ◌<◌, true, false, ◌≢◌, List, ℤ}
use Rattle.drive.specs.Axes.{axes}
use Rattle.drive.specs.Range.{InRange, Between}
use Rattle.drive.specs.Drive.{Ops, reaches}
use Rattle.drive.specs.declared.health.Health.{Health}

module _ {S : Type 0} (o : Ops S) where
  pub record Sound (s : S) (k : ℕ) : Type 0 where
    pub position : InRange (o.position s k)
    pub target : InRange (o.target s k)
    pub least : InRange (o.least s k)
    pub greatest : InRange (o.greatest s k)

  -- from s to t, the target of axis k becomes g, and what else is told of it stays
  pub record Aimed (s t : S) (k : ℕ) (g : ℤ) : Type 0 where
    pub position : o.position t k ≡ o.position s k
    pub target : o.target t k ≡ g
    pub least : o.least t k ≡ o.least s k
    pub greatest : o.greatest t k ≡ o.greatest s k
    pub down : o.down t k ≡ o.down s k

  -- all that is told of axis k stays
  abbrev pub Kept : S → S → ℕ → Type 0
  Kept s t k = Aimed s t k (o.target s k)

  -- its position moves toward its target, as far as that at most; it may go down or come up
  pub record Moved (s t : S) (k : ℕ) : Type 0 where
    pub position : Between (o.position s k) (o.target s k) (o.position t k)
    pub target : o.target t k ≡ o.target s k
    pub least : o.least t k ≡ o.least s k
    pub greatest : o.greatest t k ≡ o.greatest s k

  -- every axis's target becomes its position
  abbrev pub Stopped : S → S → Type 0
  Stopped s t = (k : ℕ) → k < axes → Aimed s t k (o.position s k)

  pub record Keeps : Type 0 where
    pub sound : (s : S) (k : ℕ) → k < axes → Sound s k
    pub begun_at : (s : S) (k : ℕ) (g : ℤ) → k < axes → o.down s k ≡ false → reaches o s k g ≡ true → Aimed s (o.begun s k g) k g
    pub begun_off : (s : S) (k j : ℕ) (g : ℤ) → k < axes → j < axes → j ≢ k → o.down s k ≡ false → reaches o s k g ≡ true → Kept s (o.begun s k g) j
    pub halted_at : (s : S) (k : ℕ) → k < axes → Aimed s (o.halted s k) k (o.position s k)
    pub halted_off : (s : S) (k j : ℕ) → k < axes → j < axes → j ≢ k → Kept s (o.halted s k) j
    pub advanced_at : (s : S) (readings : List ℤ) (h : Health) (k : ℕ) → k < axes → Moved s (o.advanced s readings h) k
