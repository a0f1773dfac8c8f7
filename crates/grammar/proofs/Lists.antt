-- Lists of fields with commas between them. Assumes nothing.
use Rattle.std.proofs.Common.{◌≡◌, ℕ, zero, suc, ◌+◌, ◌-◌, ◌<◌, ◌≤◌, Bool, true, false, cond, ◌||◌, eqb, List, [], ◌∷◌, ◌++◌, length, drop, replicate, Some, None, Ok, Err, Result, sym, refl, ◌∙◌, subst, ⊎_elim, append_assoc, append-nil, add-zero, arith, length-drop}
use Rattle.std.proofs.lemmas.Bool.{both_ways, cond_both, eqb-true, ne_eqb, or_cases, or_left, or_right, false≢true, true≢false}
use Rattle.text.specs.Typed.{Stops, Typed}
use Rattle.command.specs.declared.request.Refusal.{Refusal}
use Rattle.command.specs.declared.request.Refusal.TheVariants.{Form}
use Rattle.command.specs.Fields.{then, leading, empty, slot, after, before, fields, any}
use Rattle.command.specs.Fields as reader
use Rattle.grammar.specs.Forms.{Digits, Sign, unsigned, plus, minus, Number, whole, pointed, Fields}
use Rattle.grammar.specs.Forms as form
use Rattle.grammar.proofs.Fronts.{Agree, agree_cons, agree_nil, agree_told}
use Rattle.grammar.proofs.Judging.{Held, Field, Judged, right, judged_here, judged_after, judged_as, Numbered, judged_number}

-- The rest of a list: `seen` says whether an axis is named before.
abbrev pub Listed : List Bool → Bool → List ℕ → Type 0
Listed ps seen w = (n : Bool) × Fields ps n w × ((seen || n) ≡ true)

-- After a field: the end, where an axis is named, or a comma and the rest of the list.
abbrev Then : List Bool → Bool → List ℕ → Type 0
Then ps seen [] = seen ≡ true
Then ps seen (b ∷ w) = (eqb b 44 ≡ true) × Listed ps seen w

-- A text's first byte tells whether its first field is empty, and a number is not.
pub empty_first : (t bs : List ℕ) → Agree 1 t bs → empty t ≡ empty bs
empty_first t bs a = agree_told empty (λ b bs. refl) t bs a

signed_first : {s : List ℕ} (a k : List ℕ) → Sign s → empty (a ++ k) ≡ false → empty ((s ++ a) ++ k) ≡ false
signed_first a k unsigned h = h
signed_first a k plus h = refl
signed_first a k minus h = refl

digits_first : (a k : List ℕ) → Digits a → 1 ≤ length a → empty (a ++ k) ≡ false
digits_first [] k h some = absurd (omega arith)
digits_first (d ∷ a) k h some = ne_eqb d 44 (λ e. omega (arith, h.0.0))

pub number_first : {p : Bool} {v : List ℕ} (k : List ℕ) → Number p v → empty (v ++ k) ≡ false
number_first k (whole p s a sign ds some few) = signed_first a k sign (digits_first a k ds some)
number_first k (pointed s a b sign da db sa sb few) =
    signed_first (a ++ (46 ∷ b)) k sign (rw append_assoc (digits_first a ((46 ∷ b) ++ k) da sa))

pub zero_number : (p : Bool) → Number p (48 ∷ [])
zero_number p = whole p [] (48 ∷ []) unsigned ((omega arith, omega arith), tt) (omega arith) (omega arith)

no_fields : {n : Bool} {w : List ℕ} → Fields [] n w → ⊥
no_fields f = elim f [ ]

-- what is given of a list, where an axis is named before or not
abbrev listing : Bool → ℕ → Result reader.Fields Refusal → Result reader.Fields Refusal
listing seen end r = then r (λ fs. cond (seen || any fs) (Ok fs) (Err (Form end)))

any_none : (n : ℕ) → any (replicate n None) ≡ false
any_none zero = refl
any_none (suc n) = any_none n

module _ {L : List ℕ → Type 0} {at : ℕ} {bs : List ℕ} where
  either : (c : Bool) (x y : reader.Fields) (e : Refusal) → Judged L at bs (cond c (Ok x) (Err e)) → Judged L at bs (cond c (Ok y) (Err e))
  either true x y e (right l) = right l
  either false x y e h = h

  -- a field before those of the rest
  before_none : (seen : Bool) (end : ℕ) (r : Result reader.Fields Refusal) → Judged L at bs (listing seen end r) → Judged L at bs (listing seen end (before None r))
  before_none seen end (Ok fs) h = either (seen || any fs) fs (None ∷ fs) (Form end) h
  before_none seen end (Err e) h = h

  before_some : (seen : Bool) (end : ℕ) (f : Field) (r : Result reader.Fields Refusal) → Judged L at bs (listing true end r) → Judged L at bs (listing seen end (before (Some f) r))
  before_some true end f (Ok fs) (right l) = right l
  before_some false end f (Ok fs) (right l) = right l
  before_some seen end f (Err e) h = h

-- what stands after a field, from how the rest of the list is judged
module _ (seen : Bool) (at end b : ℕ) (bs : List ℕ) (e : end ≡ at + suc (length bs)) (y : eqb b 44 ≡ true) where
  judged_comma : (ps : List Bool) → ((at : ℕ) (bs : List ℕ) → 0 < length ps → Judged (Listed ps seen) at bs (listing seen (at + length bs) (fields ps at bs))) → Judged (Then ps seen) at (b ∷ bs) (listing seen end (fields ps (at + 1) bs))
  unfolding fields
  judged_comma [] more =
      let here : at + 1 - 1 ≡ at = omega arith in
      rw here (judged_here at (b ∷ bs) (λ t l a. let c = agree_cons 0 b t bs a in no_fields (subst (Then [] seen) c.1 l).1.1))
  judged_comma (p ∷ ps) more =
      let there : at + 1 + length bs ≡ end = omega arith in
      judged_after {L = Listed (p ∷ ps) seen} (b ∷ []) bs (b ∷ bs) refl refl
      (record {
        some = λ _. (48 ∷ [], (true, form.last p ps (48 ∷ []) (zero_number p), or_right seen true refl));
        into = λ w l. (y, l);
        out = λ t l a. let c = agree_cons 1 b t bs a in (c.0, c.1, (subst (Then (p ∷ ps) seen) c.1 l).1);
      })
      (subst (λ k. Judged (Listed (p ∷ ps) seen) (at + 1) bs (listing seen k (fields (p ∷ ps) (at + 1) bs))) there (more (at + 1) bs (omega arith)))

judged_after_field : (ps : List Bool) (seen : Bool) (at end : ℕ) (bs : List ℕ) → end ≡ at + length bs → ((at : ℕ) (bs : List ℕ) → 0 < length ps → Judged (Listed ps seen) at bs (listing seen (at + length bs) (fields ps at bs))) → Judged (Then ps seen) at bs (listing seen end (after (fields ps) (length ps) at bs))
judged_after_field ps true at end [] e more = right refl
judged_after_field ps false at end [] e more =
    let here : end ≡ at = omega arith in
    rw (any_none (length ps), here) (judged_here at [] (λ t l a. false≢true (subst (Then ps false) (agree_nil 0 t a) l)))
judged_after_field ps seen at end (b ∷ bs) e more =
    cond_both (eqb b 44) (fields ps (at + 1) bs) (Err (Form at)) (λ r. Judged (Then ps seen) at (b ∷ bs) (listing seen end r))
    (λ y. judged_comma seen at end b bs e y ps more)
    (λ n. judged_here at (b ∷ bs) (λ t l a. let c = agree_cons 0 b t bs a in both_ways (eqb b 44) n (subst (Then ps seen) c.1 l).0))

-- the texts of a list whose first field is empty, and those that begin with a number
module _ (p : Bool) (ps : List Bool) (seen : Bool) where
  empty_into : (w : List ℕ) → Then ps seen w → Listed (p ∷ ps) seen w
  empty_into [] h = (false, form.last_empty p ps, or_left seen false h)
  empty_into (b ∷ w) h = (h.1.0, rw (eqb-true b 44 h.0) (form.empty p ps h.1.0 w h.1.1), h.1.2)

  number_into : (v k : List ℕ) → Number p v → Then ps true k → Fields (p ∷ ps) true (v ++ k)
  number_into v [] num h = rw append-nil (form.last p ps v num)
  number_into v (b ∷ k) num h = rw (eqb-true b 44 h.0) (form.field p ps h.1.0 v k num h.1.1)

empty_out : {p : Bool} {ps : List Bool} {n : Bool} {t : List ℕ} (seen : Bool) → Fields (p ∷ ps) n t → empty t ≡ true → (seen || n) ≡ true → Then ps seen t
empty_out seen (form.last_empty p ps) y o = ⊎_elim (λ h. h) (λ h. absurd (false≢true h)) (or_cases seen false o)
empty_out seen (form.last p ps v num) y o = absurd (both_ways (empty v) (rw append-nil at (number_first [] num)) y)
empty_out seen (form.empty p ps n w f) y o = (refl, (n, f, o))
empty_out seen (form.field p ps n v w num f) y o = absurd (both_ways (empty (v ++ (44 ∷ w))) (number_first (44 ∷ w) num) y)

number_out : {p : Bool} {ps : List Bool} {n : Bool} {t : List ℕ} → Fields (p ∷ ps) n t → empty t ≡ false → Numbered p (Then ps true) t
number_out (form.last_empty p ps) n = absurd (true≢false n)
number_out (form.last p ps v num) n = (v, [], sym (append-nil v), num, refl)
number_out (form.empty p ps m w f) n = absurd (true≢false n)
number_out (form.field p ps m v w num f) n = (v, 44 ∷ w, refl, num, (refl, (m, f, refl)))

then_stops : (ps : List Bool) (k : List ℕ) → Then ps true k → Stops k
then_stops ps [] h = tt
then_stops ps (b ∷ k) h = rw (eqb-true b 44 h.0)

regroup : {A B C D : Type 0} (r : Result A Refusal) (s : A → B) (g : B → Result C Refusal) (h : C → Result D Refusal) → then (then (then r (λ a. Ok (s a))) g) h ≡ then r (λ a. then (g (s a)) h)
regroup (Ok a) s g h = refl
regroup (Err e) s g h = refl

abbrev Slot : Type 0
Slot = Held (slot false 0 [])

abbrev filled : Field → Slot
filled f = record { field = Some f; width = f.number.end }

-- a field, and what stands after it
abbrev with_rest : List Bool → ℕ → List ℕ → Slot → Result reader.Fields Refusal
with_rest ps at bs s = before s.field (after (fields ps) (length ps) (at + s.width) (drop s.width bs))

pub judged_fields : Typed → (ps : List Bool) (seen : Bool) (at : ℕ) (bs : List ℕ) → 0 < length ps → Judged (Listed ps seen) at bs (listing seen (at + length bs) (fields ps at bs))
unfolding fields
judged_fields law [] seen at bs some = absurd (omega arith)
judged_fields law (p ∷ ps) seen at bs some =
    cond_both (empty bs) (Ok (record { field = None; width = 0 })) (then (leading p at bs) (λ f. Ok (filled f))) (λ s. Judged (Listed (p ∷ ps) seen) at bs (listing seen (at + length bs) (then s (with_rest ps at bs))))
    (λ y.
    judged_as {L = Then ps seen} (empty_into p ps seen) (λ t l a. empty_out seen l.1 (empty_first t bs a ∙ y) l.2)
    (rw (add-zero at) (before_none seen (at + length bs) _ (judged_after_field ps seen at (at + length bs) bs refl (λ at bs h. judged_fields law ps seen at bs h)))))
    (λ n.
    subst (Judged (Listed (p ∷ ps) seen) at bs) (sym (regroup (leading p at bs) filled (with_rest ps at bs) (λ fs. cond (seen || any fs) (Ok fs) (Err (Form (at + length bs))))))
    (judged_as {L = Numbered p (Then ps true)}
    (λ w m. (true, rw m.2 (number_into p ps seen m.0 m.1 m.3 m.4), or_right seen true refl))
    (λ t l a. number_out l.1 (empty_first t bs a ∙ n))
    (judged_number law p (Then ps true) (then_stops ps) [] refl at bs _
    (λ m inside.
    before_some seen (at + length bs) _ _ (judged_after_field ps true (at + m.end) (at + length bs) (drop m.end bs) (omega (arith, length-drop m.end bs)) (λ at bs h. judged_fields law ps true at bs h))))))
