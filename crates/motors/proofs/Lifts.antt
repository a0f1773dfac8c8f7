-- Loops over the motors of a bank. Assumes nothing.
use Rattle.std.proofs.Common.{◌≡◌, ℕ, ◌+◌, ◌<◌, ◌≤◌, Bool, ◌≢◌, List, length, get_or, set, ℤ, pos, sym, ap, ◌∙◌, subst, arith}
use mathlib.Core.HLevel.{is_prop→PathP}
use native.Mathlib.Nat.{ℕ_set}
use Rattle.std.proofs.lemmas.List.{get_or-set_other, get_or_default}
use Rattle.drive.specs.Axes.{axes}
use Rattle.drive.specs.Health.{is_up}
use Rattle.drive.specs.declared.health.Health.{Health}
use Rattle.drive.proofs.Filling.{Filled, filled_more, filled_each}
use Rattle.motors.specs.Banks.{absent_motor, bank_of, motor_of}
use Rattle.motors.specs.Rules.{Rule}
use Rattle.motors.specs.declared.bank.Bank.{Bank}
use Rattle.motors.specs.declared.motor.Motor.{Motor}

module _ {A : Type 0} where
  pub same_bank : (a b : Bank A) → a.motors ≡ b.motors → a ≡ b
  same_bank a b e = λ i. record { motors = e i; full = is_prop→PathP (λ j. length (e j) ≡ axes) (λ j. ℕ_set _ _) a.full b.full i }

-- a loop that writes f k at each axis k
module _ {A : Type 0} (f : ℕ → Motor A) (d : Motor A) where
  pub filled_all : (b : Bank A) (i : ℕ) → axes ≤ i → Filled f d b.motors i → b ≡ bank_of f
  filled_all b i h w = same_bank b (bank_of f) (filled_each f d b.motors i h w)

  -- those below i have it, and those from i on are as they were
  abbrev pub Written : List (Motor A) → List (Motor A) → ℕ → Type 0
  Written old ms i = Filled f d ms i × ((k : ℕ) → i ≤ k → get_or ms k d ≡ get_or old k d)

  pub written_more : (old ms : List (Motor A)) (i j : ℕ) (m : Motor A) → i < axes → j ≡ i → Written old ms i → m ≡ f i → Written old (set ms j m) (i + 1)
  written_more old ms i j m h e w made =
      let P : ℕ → Type 0 = λ n. Written old (set ms n m) (i + 1) in
      subst P (sym e) (filled_more f d ms i m h w.0 made, λ k l. let ne : k ≢ i = omega arith in get_or-set_other ms i k m d ne ∙ w.1 k (omega arith))

module _ {A : Type 0} (r : Rule A) (b : Bank A) where
  -- what the code reads and writes at the index of an axis
  pub motor_read : (i k : ℕ) (x : Motor A) → i < axes → i ≡ k → get_or b.motors i x ≡ motor_of r b k
  motor_read i k x h e =
      let lt : i < length b.motors = omega (arith, b.full) in
      get_or_default b.motors i x _ lt ∙ ap (motor_of r b) e

  pub motor_put : (i k : ℕ) (x : Motor A) (F : Motor A → Motor A) (n : Motor A) → i < axes → i ≡ k → n ≡ F (get_or b.motors i x) → set b.motors i n ≡ set b.motors k (F (motor_of r b k))
  motor_put i k x F n h e made =
      ap (set b.motors i) (made ∙ ap F (motor_read i k x h e)) ∙ ap (λ j. set b.motors j (F (motor_of r b k))) e

  abbrev pub motor_next : List ℤ → Health → ℕ → Motor A
  motor_next readings h k = r.moved (motor_of r b k) (get_or readings k (pos 0)) (is_up h k)

  -- what a turn of the loop makes, from what it read at the index i of the axis k
  pub next_made : (readings : List ℤ) (h : Health) (ms : List (Motor A)) (k i j : ℕ) (x : Motor A) (z : ℤ) (up : Bool) → length ms ≡ axes → k < axes → i ≡ k → j ≡ k → get_or ms k (absent_motor r) ≡ motor_of r b k → z ≡ get_or readings j (pos 0) → up ≡ is_up h j → r.moved (get_or ms i x) z up ≡ motor_next readings h k
  next_made readings h ms k i j x z up full small at_i at_j same read health =
      let lt : k < length ms = omega arith in
      let e = get_or_default ms k x (absent_motor r) lt in
      cc
