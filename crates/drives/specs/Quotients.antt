-- Whole numbers divided by a positive one: toward zero, down and up. Assumes nothing.
use Rattle.std.specs.Prelude.{◌≡◌, ℕ, zero, suc, ◌*◌, ◌/◌, ◌<◌, ◌≤◌, ℤ, pos, negsuc, ◌*ℤ◌, neg_ℤ, ◌≤ℤ◌, int_div, refl}
use Rattle.std.proofs.Common.{sym, ap, subst, ◌∙◌, inl, inr, zero-mul, suc-mul, mul-le-mul_right, le-div_iff_mul-le, div-mul-le_self, mul-div_cancel, div-le_self, arith}
use Rattle.std.proofs.Math.Nat.{zero-div, lt-div-mul-add}
use Rattle.std.proofs.Math.IntN.{neg_ℤ-neg_ℤ}
use Rattle.std.proofs.lemmas.Int.{ints}
use Rattle.std.specs.Int.{int_div_euclid}
use Rattle.drive.specs.Range.{Within, InRange, Between}
use Rattle.drives.specs.Ratio.{floored, ceiled}

div_mono : (a b n : ℕ) → 0 < n → a ≤ b → a / n ≤ b / n
div_mono a b n h l = (le-div_iff_mul-le {k = n} {x = a / n} {y = b} h).1 (omega (arith, div-mul-le_self a n))

quot_neg : (y n : ℕ) → int_div (neg_ℤ (pos y)) (pos n) ≡ neg_ℤ (pos (y / n))
quot_neg zero n = rw (zero-div n) refl
quot_neg (suc y) n = refl

neg_mul : (t : ℤ) (n : ℕ) → neg_ℤ t *ℤ pos n ≡ neg_ℤ (t *ℤ pos n)
neg_mul (pos zero) n = rw (zero-mul n) refl
neg_mul (pos (suc k)) n = refl
neg_mul (negsuc k) n = sym (neg_ℤ-neg_ℤ (pos (suc k * n)))

-- by n, which is positive
module _ (n : ℕ) (h : 0 < n) where
  mul_quot : (t : ℤ) → int_div (t *ℤ pos n) (pos n) ≡ t
  mul_quot (pos b) = ap pos (mul-div_cancel b h)
  mul_quot (negsuc b) = quot_neg (suc b * n) n ∙ ap (λ x. neg_ℤ (pos x)) (mul-div_cancel (suc b) h)

  mono : (a b : ℤ) → a ≤ℤ b → int_div a (pos n) ≤ℤ int_div b (pos n)
  mono (pos a) (pos b) l = let y = div_mono a b n h (omega (arith, ints)) in omega (arith, ints)
  mono (pos a) (negsuc b) l = absurd l.le
  mono (negsuc a) (pos b) l = omega (arith, ints)
  mono (negsuc a) (negsuc b) l = let y = div_mono (suc b) (suc a) n h (omega (arith, ints)) in omega (arith, ints)

  floor_mul : (g t : ℤ) → t ≤ℤ floored g (pos n) → (t *ℤ pos n) ≤ℤ g
  floor_mul (pos a) (pos b) l =
      let y = (le-div_iff_mul-le {k = n} {x = b} {y = a} h).0 (omega (arith, ints)) in omega (arith, ints)
  floor_mul (pos a) (negsuc b) l = omega (arith, ints)
  floor_mul (negsuc a) (pos b) l = absurd l.le
  floor_mul (negsuc a) (negsuc b) l =
      let x : a / n ≤ b = omega (arith, ints) in
      let y = mul-le-mul_right n x in
      let z = lt-div-mul-add {a = a} {b = n} h in
      let w : suc a ≤ suc b * n = rw (suc-mul b n) (omega arith) in
      omega (arith, ints)

  ceil_mul : (g t : ℤ) → ceiled g (pos n) ≤ℤ t → g ≤ℤ (t *ℤ pos n)
  ceil_mul g t l =
      let a : neg_ℤ t ≤ℤ int_div_euclid (neg_ℤ g) (pos n) = omega (arith, ints) in
      let b = subst (λ x. x ≤ℤ neg_ℤ g) (neg_mul t n) (floor_mul (neg_ℤ g) (neg_ℤ t) a) in
      omega (arith, ints)

  quot_in : (a : ℤ) → InRange a → InRange (int_div a (pos n))
  quot_in (pos a) r = let x = div-le_self a n in (omega (arith, ints), omega (arith, ints))
  quot_in (negsuc a) r = let x = div-le_self (suc a) n in (omega (arith, ints), omega (arith, ints))

  floor_in : (a : ℤ) → InRange a → InRange (floored a (pos n))
  floor_in (pos a) r = let x = div-le_self a n in (omega (arith, ints), omega (arith, ints))
  floor_in (negsuc a) r = let x = div-le_self a n in (omega (arith, ints), omega (arith, ints))

pub neg_range : (a : ℤ) → InRange a → InRange (neg_ℤ a)
neg_range a r = (omega (arith, ints), omega (arith, ints))

-- a number from 1 on is some n
by_steps : (P : ℤ → Type 0) (m : ℤ) → pos 1 ≤ℤ m → ((n : ℕ) → 0 < n → P (pos n)) → P m
by_steps P (pos n) h p = p n (omega (arith, ints))
by_steps P (negsuc n) h p = absurd h.le

module _ (m : ℤ) (h : pos 1 ≤ℤ m) where
  pub quot_mul : (t : ℤ) → int_div (t *ℤ m) m ≡ t
  quot_mul t = by_steps (λ m. int_div (t *ℤ m) m ≡ t) m h (λ n p. mul_quot n p t)

  pub quot_range : (a : ℤ) → InRange a → InRange (int_div a m)
  quot_range a r = by_steps (λ m. InRange (int_div a m)) m h (λ n p. quot_in n p a r)

  pub floor_range : (a : ℤ) → InRange a → InRange (floored a m)
  floor_range a r = by_steps (λ m. InRange (floored a m)) m h (λ n p. floor_in n p a r)

  pub ceil_range : (a : ℤ) → InRange a → InRange (ceiled a m)
  ceil_range a r = neg_range (int_div_euclid (neg_ℤ a) m) (floor_range (neg_ℤ a) (neg_range a r))

  quot_mono : (a b : ℤ) → a ≤ℤ b → int_div a m ≤ℤ int_div b m
  quot_mono a b l = by_steps (λ m. int_div a m ≤ℤ int_div b m) m h (λ n p. mono n p a b l)

  pub quot_between : (a b z : ℤ) → Between a b z → Between (int_div a m) (int_div b m) (int_div z m)
  quot_between a b z (inl p) = inl (quot_mono a z p.0, quot_mono z b p.1)
  quot_between a b z (inr p) = inr (quot_mono b z p.0, quot_mono z a p.1)

  -- what is in reach above is in reach below
  pub reach_below : (low high t : ℤ) → Within (ceiled low m) (floored high m) t → Within low high (t *ℤ m)
  reach_below low high t r =
      by_steps (λ m. Within (ceiled low m) (floored high m) t → Within low high (t *ℤ m)) m h (λ n p q. (ceil_mul n p low t q.0, floor_mul n p high t q.1)) r
