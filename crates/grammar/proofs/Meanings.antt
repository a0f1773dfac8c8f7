-- The meaning of a place, from how a text was judged. Assumes nothing.
use Rattle.std.proofs.Common.{◌≡◌, ℕ, zero, suc, ◌+◌, ◌<◌, ◌≤◌, Bool, true, false, cond, List, [], ◌++◌, length, take, drop, Err, Result, sym, refl, ap, ◌∙◌, subst, inl, inr, ⊎_elim, append_assoc, arith, take-append-drop, take_at}
use Rattle.std.proofs.lemmas.List.{length-take-le, take-take}
use Rattle.std.proofs.lemmas.Bool.{cases_lt, cases_order}
use Rattle.command.specs.declared.request.Refusal.{Refusal}
use Rattle.command.specs.declared.request.Refusal.TheVariants.{Length}
use Rattle.grammar.specs.Law.{Begun, Place, ThePlace, Meaning, Meant}
use Rattle.grammar.proofs.Fronts.{Misfit}
use Rattle.grammar.proofs.Judging.{right, wrong}
use Rattle.grammar.proofs.Judging as judging
use Rattle.grammar.proofs.Rules.{Outcome, nameless, not_valid, judged}

module _ {L : List ℕ → Type 0} {text : List ℕ} where
  begun : (q : ℕ) → Begun L [] → Misfit L text q → Begun L (take q text)
  begun zero some m = some
  begun (suc q) some m =
      let t = m.fits (omega arith) in
      (drop (suc q) t.0, subst L (sym (take-append-drop (suc q) t.0) ∙ ap (λ l. l ++ drop (suc q) t.0) t.2) t.1)

  place : (q : ℕ) → Begun L [] → Misfit L text q → Place L text q
  place q some m =
      record {
        within = m.within;
        fits = begun q some m;
        stops =
            ⊎_elim
            (λ (l : q < length text).
            let more : q + 1 ≡ suc q = omega arith in
            inr (λ b. m.none (take (q + 1) text ++ b.0) b.1 (rw more (take_at (take (suc q) text) b.0 (suc q) (length-take-le (suc q) text l)))))
            (λ (l : length text ≤ q). inl (omega (arith, m.within)))
            (cases_lt q (length text));
      }

  -- what begins no text begins none with more bytes
  before : (p q : ℕ) → Place L text p → Place L text q → p < q → ⊥
  before p q a b l =
      ⊎_elim
      (λ e. omega (arith, b.within))
      (λ no.
      let x = b.fits in
      let rest = drop (p + 1) (take q text) in
      let is : take q text ≡ take (p + 1) text ++ rest = sym (take-append-drop (p + 1) (take q text)) ∙ ap (λ l. l ++ rest) (take-take (p + 1) q text (omega arith)) in
      no (rest ++ x.0, subst L (ap (λ l. l ++ x.0) is ∙ append_assoc (take (p + 1) text) rest x.0) x.1))
      a.stops

  the_place : (p q : ℕ) → p ≡ 0 + q → Begun L [] → Misfit L text q → ThePlace L text p
  the_place p q e some m =
      let here : Place L text q = place q some m in
      let is : q ≡ p = omega arith in
      subst (ThePlace L text) is
      (here, λ r other. ⊎_elim (λ e. e) (λ h. absurd (⊎_elim (λ l. before r q other here l) (λ l. before q r here other l) h)) (cases_order r q))

pub meaning : {A : Type 0} {named right : List ℕ → Type 0} {text : List ℕ} {r : Result A Refusal} → Begun right [] → ((t : List ℕ) → right t → named t) → Outcome named right 0 text r → Meaning named right text r
meaning {text = text} some sub (nameless {p = p} q e m) =
    record {
      refuses_wrong = λ _ r. m.none text (sub text r) refl;
      takes_right = λ h. absurd (h tt);
      told = (λ n. m.none text n refl, the_place p q e (some.0, sub some.0 some.1) m);
    }
meaning some sub (not_valid n w) = record { refuses_wrong = λ _. w; takes_right = λ h. absurd (h tt); told = n }
meaning some sub (judged n (judging.right l)) = record { refuses_wrong = λ m. absurd m; takes_right = λ _. l; told = tt }
meaning some sub (judged n (judging.beyond l)) = record { refuses_wrong = λ m. absurd m; takes_right = λ _. l; told = tt }
meaning {text = text} some sub (judged n (wrong {p = p} q e m)) =
    record {
      refuses_wrong = λ _ r. m.none text r refl;
      takes_right = λ h. absurd (h tt);
      told = (n, the_place p q e some m);
    }

-- the length is judged first
pub meant : {A : Type 0} {named right : List ℕ → Type 0} {text : List ℕ} {r : Result A Refusal} (long : Bool) → Meaning named right text r → Meant named right text (cond long r (Err Length))
meant true m h = m
meant false m h = absurd (h refl)
