-- The number at the front of a text: what its bytes are, and on which bytes the reading of it rests. Assumes nothing.
use Rattle.std.proofs.Common.{◌≡◌, ℕ, suc, ◌+◌, ◌<◌, ◌≤◌, Bool, true, ◌&&◌, ◌||◌, eqb, ltb, leb, List, [], ◌∷◌, ◌++◌, length, take, drop, Some, None, Ok, Err, Option, Result, sym, refl, ap, ◌∙◌, subst, ⊎_elim, append_assoc, append-nil, arith, length-drop, take-add}
use Rattle.std.proofs.ByRecursion.{All-push}
use Rattle.std.proofs.lemmas.List.{length_push}
use Rattle.std.proofs.lemmas.Bool.{and_parts, cases_eq, cond_both, eqb-false, eqb-true, leb-false, ltb-true, or_cases}
use Rattle.std.proofs.lemmas.Bool.Decides.{nat_tests}
use Rattle.text.specs.declared.number.Number as read
use Rattle.text.specs.Numbers.{digit, signs, negative, start, longer, pointed, step, scanned, finished, reads}
use Rattle.grammar.specs.Forms.{Digit, Digits, Sign, unsigned, plus, minus, Number}
use Rattle.grammar.specs.Forms as form
use Rattle.grammar.proofs.Fronts.{Agree, agree_less, agree_cons, agree_nil, agree_told, agree_drop}

abbrev Domain : {A B : Type 0} → (A → B) → Type 0
Domain {A} f = A

-- A number as far as it has been read.
abbrev Scan : Type 0
Scan = Domain pointed

-- What one byte more does to a number: it ends it, or is a digit or the point.
data Taken (p : Bool) (s : Scan) (b : ℕ) : Option Scan → Type 0 where
  ends : Taken p s b None
  a_digit : Digit b → s.digits < 10 → Taken p s b (Some (longer s b))
  a_point : p ≡ true → s.whole ≡ 0 → 0 < s.digits → s.digits < 10 → b ≡ 46 → Taken p s b (Some (pointed s))

-- the test of a digit
pub is_digit : (b : ℕ) → digit b ≡ true → Digit b
is_digit b h = grind (arith, nat_tests)

taken : (p : Bool) (s : Scan) (b : ℕ) → Taken p s b (step p s b)
taken p s b =
    cond_both (leb 10 s.digits) _ _ (Taken p s b) (λ _. ends)
    (λ room.
    let few : s.digits < 10 = leb-false 10 s.digits room in
    cond_both (digit b) _ _ (Taken p s b)
    (λ d. a_digit (is_digit b d) few)
    (λ _.
    cond_both (eqb b 46 && (p && (eqb s.whole 0 && ltb 0 s.digits))) _ _ (Taken p s b)
    (λ h.
    let h₁ = and_parts (eqb b 46) (p && (eqb s.whole 0 && ltb 0 s.digits)) h in
    let h₂ = and_parts p (eqb s.whole 0 && ltb 0 s.digits) h₁.1 in
    let h₃ = and_parts (eqb s.whole 0) (ltb 0 s.digits) h₂.1 in
    a_point h₂.0 (eqb-true s.whole 0 h₃.0) (ltb-true 0 s.digits h₃.1) few (eqb-true b 46 h₁.0))
    (λ _. ends)))

-- The bytes of a number after its sign, as far as d digits, w of them before its point (0 while there is none).
data Read (p : Bool) (d w : ℕ) (u : List ℕ) : Type 0 where
  before : Digits u → length u ≡ d → w ≡ 0 → d ≤ 10 → Read p d w u
  behind : (a b : List ℕ) → p ≡ true → u ≡ a ++ (46 ∷ b) → Digits a → Digits b → length a ≡ w → 1 ≤ w → w ≤ 9 → w + length b ≡ d → d ≤ 10 → Read p d w u

module _ {p : Bool} {d w : ℕ} {u : List ℕ} where
  with_digit : (b : ℕ) → Digit b → d < 10 → Read p d w u → Read p (d + 1) w (u ++ b ∷ [])
  with_digit b h room (before ds e z few) = before (All-push Digit u b ds h) (omega (arith, length_push u b)) z (omega arith)
  with_digit b h room (behind a c pt e da dc la some most many few) =
      behind a (c ++ b ∷ []) pt (ap (λ l. l ++ b ∷ []) e ∙ append_assoc a (46 ∷ c) (b ∷ [])) da (All-push Digit c b dc h) la some most (omega (arith, length_push c b)) (omega arith)

  with_point : p ≡ true → w ≡ 0 → 0 < d → d < 10 → Read p d w u → Read p d d (u ++ 46 ∷ [])
  with_point pt z some room (before ds e z' few) = behind u [] pt refl ds tt e some (omega arith) (omega arith) few
  with_point pt z some room (behind a b pt' e da db la one most many few) = absurd (omega arith)

  -- with a digit more after the point, or any before it, that is a number
  complete : (g : List ℕ) → Sign g → (d ≡ w → ⊥) → Read p d w u → Number p (g ++ u)
  complete g s n (before ds e z few) = form.whole p g u s ds (omega arith) (omega arith)
  complete g s n (behind a b pt e da db la some most many few) = rw (e, pt) (form.pointed g a b s da db (omega arith) (omega arith) (omega arith))

  split : Read p d w u → (w ≤ d) × (d ≡ w → d < 10)
  split (before ds e z few) = (omega arith, λ e. omega arith)
  split (behind a b pt e da db la some most many few) = (omega arith, λ e. omega arith)

-- some number begins so
completed : {p : Bool} {d w : ℕ} {u : List ℕ} (g : List ℕ) → Sign g → Read p d w u → (x : List ℕ) × Number p (g ++ (u ++ x))
completed {p} {d} {w} {u} g s r =
    ⊎_elim
    (λ (e : d ≡ w).
    let zero : Digit 48 = (omega arith, omega arith) in
    let more : d + 1 ≡ w → ⊥ = λ e. omega (arith, (split r).0) in
    (48 ∷ [], complete g s more (with_digit 48 zero ((split r).1 e) r)))
    (λ (n : d ≡ w → ⊥). ([], rw append-nil (complete g s n r)))
    (cases_eq d w)

-- The bytes bs are gone over from s on, with u read already: how many of them, to what end, and on which bytes that rests.
record Run (p : Bool) (u : List ℕ) (s : Scan) (bs : List ℕ) : Type 0 where
  stop : Scan
  count : ℕ
  end : stop.end ≡ s.end + count
  within : count ≤ length bs
  read : Read p stop.digits stop.whole (u ++ take count bs)
  local : (t : List ℕ) → Agree (suc count) t bs → scanned p s t ≡ stop

module _ (p : Bool) (u : List ℕ) (s : Scan) (b : ℕ) (bs : List ℕ) where
  by_step : (o : Option Scan) → step p s b ≡ o → (t : List ℕ) → scanned p s (b ∷ t) ≡ elim o [ None ↦ s | Some z ↦ scanned p z t ]
  by_step o e t = ap (λ o. elim o [ None ↦ s | Some z ↦ scanned p z t ]) e

  goes_on : (z : Scan) → step p s b ≡ Some z → z.end ≡ s.end + 1 → Run p (u ++ b ∷ []) z bs → Run p u s (b ∷ bs)
  goes_on z e one m =
      record {
        stop = m.stop;
        count = suc m.count;
        end = omega (arith, m.end);
        within = omega (arith, m.within);
        read = rw append_assoc at m.read;
        local = λ t a. let c = agree_cons (suc m.count) b t bs a in ap (scanned p s) c.1 ∙ by_step (Some z) e c.0 ∙ m.local c.0 c.2;
      }

  run_step : (o : Option Scan) → step p s b ≡ o → Taken p s b o → ((z : Scan) → Read p z.digits z.whole (u ++ b ∷ []) → Run p (u ++ b ∷ []) z bs) → Read p s.digits s.whole u → Run p u s (b ∷ bs)
  run_step None e ends more r =
      record {
        stop = s;
        count = 0;
        end = omega arith;
        within = omega arith;
        read = rw append-nil r;
        local = λ t a. let c = agree_cons 0 b t bs a in ap (scanned p s) c.1 ∙ by_step None e c.0;
      }
  run_step (Some z) e (a_digit h room) more r = goes_on (longer s b) e refl (more (longer s b) (with_digit b h room r))
  run_step (Some z) e (a_point pt none some room is) more r =
      goes_on (pointed s) e refl (more (pointed s) (subst (λ x. Read p s.digits s.digits (u ++ x ∷ [])) (sym is) (with_point pt none some room r)))

run : (p : Bool) (u : List ℕ) (s : Scan) (bs : List ℕ) → Read p s.digits s.whole u → Run p u s bs
run p u s [] r = record { stop = s; count = 0; end = omega arith; within = omega arith; read = rw append-nil r; local = λ t a. ap (scanned p s) (agree_nil 0 t a) }
run p u s (b ∷ bs) r = run_step p u s b bs (step p s b) refl (taken p s b) (λ z h. run p (u ++ b ∷ []) z bs h) r

sign_front : (bs : List ℕ) → Sign (take (signs bs) bs)
sign_front [] = unsigned
sign_front (b ∷ bs) =
    cond_both (eqb b 43 || eqb b 45) 1 0 (λ k. Sign (take k (b ∷ bs)))
    (λ h. ⊎_elim (λ e. rw (eqb-true b 43 e) plus) (λ e. rw (eqb-true b 45 e) minus) (or_cases (eqb b 43) (eqb b 45) h))
    (λ _. unsigned)

signs_within : (bs : List ℕ) → signs bs ≤ length bs
signs_within [] = omega arith
signs_within (b ∷ bs) = grind (arith, nat_tests)

-- What is read is the number that ends at `at`, or no number that goes on up to there.
abbrev pub Ended : Bool → List ℕ → ℕ → Result read.Number ℕ → Type 0
Ended p bs at (Ok n) = (n.end ≡ at) × Number p (take at bs)
Ended p bs at (Err q) = q ≡ at

-- How the number at the front of bs is read: up to `at`, as some number begins, and with a look at the byte there.
pub record Stopped (p : Bool) (bs : List ℕ) : Type 0 where
  pub at : ℕ
  pub within : at ≤ length bs
  pub some : (x : List ℕ) × Number p (take at bs ++ x)
  pub ended : Ended p bs at (reads p bs)
  pub local : (t : List ℕ) → Agree (suc at) t bs → reads p t ≡ reads p bs

pub stopped : (p : Bool) (bs : List ℕ) → Stopped p bs
unfolding reads
stopped p bs =
    let k = signs bs in
    let rest = drop k bs in
    let m = run p [] (start k) rest (before tt refl refl (omega arith)) in
    let front : take (k + m.count) bs ≡ take k bs ++ take m.count rest = take-add k m.count bs in
    let begun = completed (take k bs) (sign_front bs) m.read in
    record {
      at = k + m.count;
      within = omega (arith, m.within, length-drop k bs, signs_within bs);
      some = (begun.0, rw (front, append_assoc) begun.1);
      ended =
          subst (λ z. Ended p bs (k + m.count) (finished (negative bs) z)) (sym (m.local rest refl))
          (cond_both (eqb m.stop.digits m.stop.whole) _ _ (Ended p bs (k + m.count)) (λ _. m.end)
          (λ n. (m.end, rw front (complete (take k bs) (sign_front bs) (eqb-false _ _ n) m.read))));
      local =
          λ t a.
          let first : Agree 1 t bs = agree_less 1 (suc (k + m.count)) t bs (omega arith) a in
          let same : signs t ≡ k = agree_told signs (λ b bs. refl) t bs first in
          let more : suc (k + m.count) ≡ k + suc m.count = omega arith in
          let there : scanned p (start k) (drop k t) ≡ m.stop = m.local (drop k t) (agree_drop k (suc m.count) t bs (subst (λ n. Agree n t bs) more a)) in
          (λ i. finished (agree_told negative (λ b bs. refl) t bs first i) (scanned p (start (same i)) (drop (same i) t)))
          ∙ ap (finished (negative bs)) (there ∙ sym (m.local rest refl));
    }
