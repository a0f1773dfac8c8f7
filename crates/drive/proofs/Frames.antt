-- What the laws give of `begin`, answered either way, and of a loop that halts axes in turn. Assumes nothing.
use Rattle.std.proofs.Common.{◌≡◌, ℕ, zero, suc, ◌<◌, ◌≤◌, Bool, true, false, ◌≢◌, ℤ, Ok, Result, sym, refl, ap, ◌∙◌, subst, ⊎_elim, arith}
use Rattle.std.proofs.lemmas.Bool.{cases_eq}
use Rattle.drive.specs.Axes.{axes, through}
use Rattle.drive.specs.Drive.{Ops, answer, left_by, reaches, reply, tried}
use Rattle.drive.specs.Laws.{Keeps, Aimed, Kept}
use Rattle.drive.specs.declared.motion.Decline.{Decline}

module _ {S : Type 0} {o : Ops S} {k : ℕ} where
  pub kept_same : (s : S) → Kept o s s k
  kept_same s = record { position = refl; target = refl; least = refl; greatest = refl; down = refl }

  pub aimed_then : {s t u : S} {g h : ℤ} → Aimed o s t k g → Aimed o t u k h → Aimed o s u k h
  aimed_then a b = record {
    position = b.position ∙ a.position;
    target = b.target;
    least = b.least ∙ a.least;
    greatest = b.greatest ∙ a.greatest;
    down = b.down ∙ a.down;
  }

  -- one that is kept after it is aimed stays aimed
  pub aimed_kept : {s t u : S} {g : ℤ} → Aimed o s t k g → Kept o t u k → Aimed o s u k g
  aimed_kept {s = s} {u = u} a b = subst (λ h. Aimed o s u k h) a.target (aimed_then a b)

pub ok_tests : (d r : Bool) → answer d r ≡ Ok tt → (d ≡ false) × (r ≡ true)
ok_tests true r e = (cc, cc)
ok_tests false true e = (refl, refl)
ok_tests false false e = (cc, cc)

left_cases : {S : Type 0} (d r : Bool) (P : S → Type 0) (s t : S) → P s → (d ≡ false → r ≡ true → P t) → P (left_by (answer d r) s t)
left_cases true r P s t refused taken = refused
left_cases false true P s t refused taken = taken refl refl
left_cases false false P s t refused taken = refused

module _ {S : Type 0} {o : Ops S} (K : Keeps o) (s : S) where
  pub tried_off : (k j : ℕ) (g : ℤ) → k < axes → j < axes → j ≢ k → Kept o s (tried o s k g) j
  tried_off k j g hk hj ne =
      left_cases (o.down s k) (reaches o s k g) (λ t. Kept o s t j) s (o.begun s k g) (kept_same s) (K.begun_off s k j g hk hj ne)

  -- answered with Ok, it aims its axis
  pub tried_at : (k : ℕ) (g : ℤ) → k < axes → reply o s k g ≡ Ok tt → Aimed o s (tried o s k g) k g
  tried_at k g hk e = let t = ok_tests (o.down s k) (reaches o s k g) e in rw e (K.begun_at s k g hk t.0 t.1)

  -- halting the axes below n stops those, and keeps the others
  pub halts_past : (n k : ℕ) → n ≤ k → k < axes → Kept o s (through o.halted n s) k
  unfolding through
  halts_past zero k hn hk = kept_same s
  halts_past (suc n) k hn hk =
      aimed_kept (halts_past n k (omega arith) hk) (K.halted_off _ n k (omega arith) hk (omega arith))

  pub halts_below : (n k : ℕ) → k < n → n ≤ axes → Aimed o s (through o.halted n s) k (o.position s k)
  unfolding through
  halts_below zero k hk hn = let z : ⊥ = omega arith in absurd z
  halts_below (suc n) k hk hn =
      ⊎_elim
      (λ e. let p = halts_past k k (omega arith) (omega arith) in subst (λ m. Aimed o s (o.halted (through o.halted m s) m) k (o.position s k)) e (subst (λ h. Aimed o s (o.halted (through o.halted k s) k) k h) p.position (aimed_then p (K.halted_at _ k (omega arith)))))
      (λ ne. aimed_kept (halts_below n k (omega arith) (omega arith)) (K.halted_off _ n k (omega arith) (omega arith) ne))
      (cases_eq k n)

-- how a drive shows its own `begin`: x is the target as the code has it, and r what `admits` told of it
module _ {S : Type 0} (o : Ops S) (s : S) (k : ℕ) (g : ℤ) where
  pub admitted : (x : ℤ) (r : Result (Unit {0}) Decline) → x ≡ g → r ≡ reply o s k x → r ≡ Ok tt → reply o s k g ≡ Ok tt
  admitted x r e told ok = ap (reply o s k) (sym e) ∙ sym told ∙ ok

  pub tried_taken : reply o s k g ≡ Ok tt → tried o s k g ≡ o.begun s k g
  tried_taken e = rw e refl
