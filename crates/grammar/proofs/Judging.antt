-- Results that tell rightly whether a text has a form, and if not, where it ceases to. Assumes nothing.
use Rattle.std.proofs.Common.{◌≡◌, ℕ, suc, ◌+◌, ◌≤◌, Bool, true, false, cond, List, [], ◌∷◌, ◌++◌, length, take, drop, Some, None, Ok, Err, Option, Result, sym, refl, ap, ◌∙◌, subst, append_assoc, append-nil, add-zero, arith, take-append-drop, take_at}
use Rattle.std.specs.Option.{ok_or}
use Rattle.std.specs.Str.{all_ascii_digits}
use Rattle.std.proofs.lemmas.List.{length-take-le}
use Rattle.std.proofs.lemmas.Bool.{both_ways, cond_both}
use Rattle.std.proofs.lemmas.Bool.Decides.{nat_tests}
use Rattle.text.specs.declared.number.Number as read
use Rattle.text.specs.Numbers.{reads}
use Rattle.text.specs.Typed.{mark, Stops, Typed}
use Rattle.text.specs.Typed as typed
use Rattle.command.specs.declared.request.Refusal.{Refusal}
use Rattle.command.specs.declared.request.Refusal.TheVariants.{Form, Range}
use Rattle.command.specs.Fields.{then, only, number_at, leading, single}
use Rattle.grammar.specs.Forms.{Digits, Sign, unsigned, plus, minus, Number, whole, pointed}
use Rattle.grammar.proofs.Fronts.{Agree, agree_less, agree_cons, agree_nil, Misfit, Follows, misfit_after}
use Rattle.grammar.proofs.Scanning.{Ended, stopped}

-- The type of the values of a result, and so that of a number at its place.
abbrev pub Held : {A : Type 0} → Result A Refusal → Type 0
Held {A} r = A

abbrev pub Field : Type 0
Field = Held (leading false 0 [])

-- The bytes bs, at place `at` of a text, are of the form L, or cease to be at the place that is told.
pub data Judged {A : Type 0} (L : List ℕ → Type 0) (at : ℕ) (bs : List ℕ) : Result A Refusal → Type 0 where
  right : {a : A} → L bs → Judged L at bs (Ok a)
  beyond : {p : ℕ} → L bs → Judged L at bs (Err (Range p))
  wrong : {p : ℕ} (q : ℕ) → p ≡ at + q → Misfit L bs q → Judged L at bs (Err (Form p))

-- the first byte does not fit, or is missing
pub judged_here : {A : Type 0} {L : List ℕ → Type 0} (at : ℕ) (bs : List ℕ) → ((t : List ℕ) → L t → Agree 1 t bs → ⊥) → Judged {A = A} L at bs (Err (Form at))
judged_here at bs none = wrong 0 (sym (add-zero at)) (record { within = omega arith; fits = λ h. absurd (omega arith); none = none })

-- a judgement of what follows u is one of the whole
pub judged_after : {A : Type 0} {M L : List ℕ → Type 0} {at d : ℕ} (u bs cs : List ℕ) {r : Result A Refusal} → u ++ bs ≡ cs → length u ≡ d → Follows M L u bs → Judged L (at + d) bs r → Judged M at cs r
judged_after {M = M} u bs cs e long f (right h) = right (subst M e (f.into bs h))
judged_after {M = M} u bs cs e long f (beyond h) = beyond (subst M e (f.into bs h))
judged_after {M = M} u bs cs e long f (wrong q is m) = wrong (length u + q) (omega arith) (subst (λ c. Misfit M c (length u + q)) e (misfit_after u bs f q m))

-- M has the texts of L that begin as bs does
pub judged_as : {A : Type 0} {M L : List ℕ → Type 0} {at : ℕ} {bs : List ℕ} {r : Result A Refusal} → ((w : List ℕ) → L w → M w) → ((t : List ℕ) → M t → Agree 1 t bs → L t) → Judged L at bs r → Judged M at bs r
judged_as {at = at} {bs = bs} into out h =
    judged_after [] bs bs refl refl (record { some = λ h. absurd (omega arith); into = into; out = λ t m a. (t, refl, out t m a) }) (rw (add-zero at) h)

-- A value, or a number out of range.
pub data Ranged {A : Type 0} : Result A Refusal → Type 0 where
  value : {a : A} → Ranged (Ok a)
  beyond : {p : ℕ} → Ranged (Err (Range p))

ranged : {A : Type 0} {L : List ℕ → Type 0} {at : ℕ} {bs : List ℕ} {r : Result A Refusal} → L bs → Ranged r → Judged L at bs r
ranged l value = right l
ranged l beyond = Judged.beyond l

-- the form first, then the range
pub judged_then : {A B : Type 0} {L : List ℕ → Type 0} {at : ℕ} {bs : List ℕ} {r : Result A Refusal} (f : A → Result B Refusal) → Judged L at bs r → ((a : A) → Ranged (f a)) → Judged L at bs (then r f)
judged_then f (right {a = a} l) h = ranged l (h a)
judged_then f (Judged.beyond l) h = Judged.beyond l
judged_then f (wrong q e m) h = wrong q e m

pub ranged_kept : {A : Type 0} (p : ℕ) (o : Option A) → Ranged (ok_or o (Range p))
ranged_kept p (Some a) = value
ranged_kept p None = beyond

pub ranged_then : {A B : Type 0} {r : Result A Refusal} (f : A → Result B Refusal) → Ranged r → ((a : A) → Ranged (f a)) → Ranged (then r f)
ranged_then f (value {a = a}) h = h a
ranged_then f beyond h = beyond

-- Nothing.
abbrev pub End : List ℕ → Type 0
End w = w ≡ []

pub judged_only : {A : Type 0} (a : A) (at : ℕ) (bs : List ℕ) → Judged End at bs (only a at bs)
judged_only a at [] = right refl
judged_only a at (b ∷ bs) = judged_here at (b ∷ bs) (λ t e g. cc)

-- A byte that passes the test, and a text of K after it.
abbrev pub Byte : (ℕ → Bool) → (List ℕ → Type 0) → List ℕ → Type 0
Byte test K [] = ⊥
Byte test K (b ∷ w) = (test b ≡ true) × K w

module _ {A : Type 0} (test : ℕ → Bool) (K : List ℕ → Type 0) (at : ℕ) where
  pub judged_no_byte : Judged {A = A} (Byte test K) at [] (Err (Form at))
  judged_no_byte = judged_here at [] (λ t l a. subst (Byte test K) (agree_nil 0 t a) l)

  pub judged_byte : (k : List ℕ) → K k → (b : ℕ) (bs : List ℕ) (r : Result A Refusal) → Judged K (at + 1) bs r → Judged (Byte test K) at (b ∷ bs) (cond (test b) r (Err (Form at)))
  judged_byte k kk b bs r h =
      cond_both (test b) r (Err (Form at)) (Judged (Byte test K) at (b ∷ bs))
      (λ e.
      judged_after (b ∷ []) bs (b ∷ bs) refl refl
      (record { some = λ _. (k, kk); into = λ w kw. (e, kw); out = λ t l a. let c = agree_cons 1 b t bs a in (c.0, c.1, (subst (Byte test K) c.1 l).1) })
      h)
      (λ e. judged_here at (b ∷ bs) (λ t l a. let c = agree_cons 0 b t bs a in both_ways (test b) e (subst (Byte test K) c.1 l).0))

-- A number, and a text of K after it.
abbrev pub Numbered : Bool → (List ℕ → Type 0) → List ℕ → Type 0
Numbered p K t = (v : List ℕ) × (k : List ℕ) × (t ≡ v ++ k) × Number p v × K k

all_digits : (ds : List ℕ) → Digits ds → all_ascii_digits ds ≡ true
all_digits [] h = refl
all_digits (d ∷ ds) h = let k = all_digits ds in grind (arith, nat_tests)

sign_of : {s : List ℕ} → Sign s → (g : typed.Sign) × (s ≡ mark g)
sign_of unsigned = (typed.none, refl)
sign_of plus = (typed.plus, refl)
sign_of minus = (typed.minus, refl)

module _ (law : Typed) where
  -- a number is read to its end, where no digit and no point follows
  number_read : {p : Bool} {v : List ℕ} (k : List ℕ) → Stops k → Number p v → (n : read.Number) × (reads p (v ++ k) ≡ Ok n) × (n.end ≡ length v)
  number_read k stops (whole p s a sign ds some few) =
      let g = sign_of sign in
      let r = law p g.0 a [] k (all_digits a ds) refl some (omega arith) (λ h. absurd (omega arith)) stops in
      rw (append_assoc, g.1) (_, r, rw append-nil refl)
  number_read k stops (pointed s a [] sign da db sa sb few) = absurd (omega arith)
  number_read k stops (pointed s a (b ∷ bs) sign da db sa sb few) =
      let g = sign_of sign in
      let r = law true g.0 a (b ∷ bs) k (all_digits a da) (all_digits (b ∷ bs) db) sa few (λ _. refl) stops in
      rw (append_assoc, append_assoc, g.1) (_, r, refl)

  module _ (p : Bool) (K : List ℕ → Type 0) (ends : (k : List ℕ) → K k → Stops k) (some : List ℕ) (somek : K some) (at : ℕ) (bs : List ℕ) where
    -- a text that goes along with bs past the end of its number has the same number
    same : (t : List ℕ) (m : Numbered p K t) → Agree (suc (stopped p bs).at) t bs → (n : read.Number) × (reads p bs ≡ Ok n) × (n.end ≡ length m.0)
    same t m a =
        let r = number_read m.1 (ends m.1 m.4) m.3 in
        (r.0, sym ((stopped p bs).local t a) ∙ ap (reads p) m.2 ∙ r.1, r.2)

    refused : (q : ℕ) → q ≡ (stopped p bs).at → reads p bs ≡ Err q → Misfit (Numbered p K) bs q
    refused q e is =
        let s = stopped p bs in
        let x = s.some in
        let long : length (take s.at bs) ≡ s.at = length-take-le s.at bs s.within in
        rw e
        (record {
          within = s.within;
          fits =
              λ _. (
                (take s.at bs ++ x.0) ++ some,
                (take s.at bs ++ x.0, some, refl, x.1, somek),
                ap (take s.at) (append_assoc (take s.at bs) x.0 some) ∙ take_at (take s.at bs) (x.0 ++ some) s.at long,
              );
          none = λ t m a. let g = same t m a in cc (is, g.1);
        })

    follows : (n : read.Number) → n.end ≡ (stopped p bs).at → Number p (take n.end bs) → reads p bs ≡ Ok n → Follows (Numbered p K) K (take n.end bs) (drop n.end bs)
    follows n e num is =
        let s = stopped p bs in
        let long : length (take n.end bs) ≡ n.end = length-take-le n.end bs (omega (arith, s.within)) in
        record {
          some = λ _. (some, somek);
          into = λ w kw. (take n.end bs, w, refl, num, kw);
          out =
              λ t m a.
              let more : length (take n.end bs) + 1 ≡ suc s.at = omega arith in
              let b : Agree (suc s.at) t bs = subst (λ l. Agree (suc s.at) t l) (take-append-drop n.end bs) (subst (λ i. Agree i t (take n.end bs ++ drop n.end bs)) more a) in
              let g = same t m b in
              let same_number : g.0 ≡ n = cc (is, g.1) in
              let width : length m.0 ≡ n.end = sym g.2 ∙ ap (λ x. x.end) same_number in
              let front : take n.end bs ≡ m.0 = sym (agree_less n.end (suc s.at) t bs (omega arith) b) ∙ ap (take n.end) m.2 ∙ take_at m.0 m.1 n.end width in
              (m.1, m.2 ∙ ap (λ l. l ++ m.1) (sym front), m.4);
        }

    -- what is read after the number judges the whole
    pub judged_number : {A : Type 0} (f : Field → Result A Refusal) → ((n : read.Number) → n.end ≤ length bs → Judged K (at + n.end) (drop n.end bs) (f (record { at = at; number = n }))) → Judged (Numbered p K) at bs (then (leading p at bs) f)
    judged_number f h = by (reads p bs) refl (stopped p bs).ended
      where
        by : (r : Result read.Number ℕ) → reads p bs ≡ r → Ended p bs (stopped p bs).at r → Judged (Numbered p K) at bs (then (number_at at r) f)
        by (Ok n) is e =
            let inside : n.end ≤ length bs = omega (arith, (stopped p bs).within, e.0) in
            judged_after (take n.end bs) (drop n.end bs) bs (take-append-drop n.end bs) (length-take-le n.end bs inside)
            (follows n e.0 (rw e.0 e.1) is)
            (h n inside)
        by (Err q) is e = wrong q refl (refused q e is)

  -- a number and nothing more
  pub judged_single : (p : Bool) (at : ℕ) (bs : List ℕ) → Judged (Number p) at bs (single p at bs)
  judged_single p at bs =
      judged_as {L = Numbered p End}
      (λ w m. subst (Number p) (sym (m.2 ∙ ap (λ k. m.0 ++ k) m.4 ∙ append-nil m.0)) m.3)
      (λ t n a. (t, [], sym (append-nil t), n, refl))
      (judged_number p End (λ k e. subst Stops (sym e) tt) [] refl at bs (λ f. only f (at + f.number.end) (drop f.number.end bs)) (λ n _. judged_only _ (at + n.end) (drop n.end bs)))
