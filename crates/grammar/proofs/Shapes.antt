-- What may follow a name, shape by shape. Assumes nothing.
use Rattle.std.proofs.Common.{◌≡◌, ℕ, ◌+◌, ◌<◌, Bool, true, false, ◌||◌, eqb, ◌⊎◌, List, [], ◌∷◌, ◌++◌, length, drop, pos, negsuc, Some, None, Ok, Err, Option, Result, sym, refl, ap, ◌∙◌, subst, inl, inr, ⊎_elim, arith}
use Rattle.std.proofs.lemmas.Bool.{both_ways, cond_both, eqb-true}
use Rattle.std.proofs.lemmas.Bool.Decides.{nat_tests}
use Rattle.drive.specs.declared.axis.Axis.{Axis}
use Rattle.drive.specs.Axes.{axes, each, length-each}
use Rattle.queue.specs.declared.entry.Code.{Code}
use Rattle.text.specs.declared.number.Number as read
use Rattle.text.specs.Typed.{Stops, Typed}
use Rattle.command.specs.declared.request.Refusal.{Refusal}
use Rattle.command.specs.declared.request.Refusal.TheVariants.{Mode}
use Rattle.command.specs.declared.request.Settings.{Settings}
use Rattle.command.specs.Fields.{then, only, empty, single}
use Rattle.command.specs.Fields as reader
use Rattle.command.specs.Operands.{pointed, amount, ranged, kept, operands}
use Rattle.command.specs.Operands.{listed as reader-listed}
use Rattle.command.specs.Bench.{moving}
use Rattle.command.specs.Sets.{removing, level, judged, contact, killing}
use Rattle.grammar.specs.Forms.{Same, Number, Fields, Shape, bare, one, optional, listed, kill, invalid, Shaped}
use Rattle.grammar.specs.Forms as form
use Rattle.grammar.proofs.Fronts.{Agree, agree_nil}
use Rattle.grammar.proofs.Judging.{Field, Judged, right, judged_here, judged_as, judged_then, Ranged, value, ranged_kept, ranged_then, End, judged_only, Byte, judged_no_byte, judged_byte, Numbered, judged_number, judged_single}
use Rattle.grammar.proofs.Lists.{Listed, empty_first, number_first, zero_number, judged_fields}

-- What follows a name is read as the texts of its shape, of which there is one; or not at all, where the name is not valid.
pub data Reads {A : Type 0} (s : Shape) (f : ℕ → List ℕ → Result A Refusal) : Type 0 where
  takes : (w : List ℕ) → Shaped s w → ((at : ℕ) (bs : List ℕ) → Judged (Shaped s) at bs (f at bs)) → Reads s f
  never : s ≡ invalid → ((at : ℕ) (bs : List ℕ) → f at bs ≡ Err Mode) → Reads s f

bare_out : {t : List ℕ} → Shaped bare t → End t
bare_out form.nothing = refl

one_out : {p : Bool} {t : List ℕ} → Shaped (one p) t → Number p t
one_out (form.number p v n) = n

optional_out : {t : List ℕ} (b : ℕ) (bs : List ℕ) → Shaped optional t → Agree 1 t (b ∷ bs) → Number false t
optional_out b bs form.absent a = absurd (cc)
optional_out b bs (form.present v n) a = n

listed_out : {ps : List Bool} {t : List ℕ} → Shaped (listed ps) t → Listed ps false t
listed_out (form.fields ps w f) = (true, f, refl)

pub reads_bare : {A : Type 0} (x : A) → Reads bare (only x)
reads_bare x = takes [] form.nothing (λ at bs. judged_as {L = End} (λ w e. subst (Shaped bare) (sym e) form.nothing) (λ t s a. bare_out s) (judged_only x at bs))

comma : ℕ → Bool
comma b = eqb b 44

letter : ℕ → Bool
letter b = eqb b 67 || eqb b 99

same_letter : {c : ℕ} → Same 67 c → letter c ≡ true
unfolding letter
same_letter s = grind (arith, nat_tests)

letter_same : (c : ℕ) → letter c ≡ true → Same 67 c
unfolding letter
letter_same c h = grind (arith, nat_tests)

-- the two forms of what follows IOK
abbrev Cleared : List ℕ → Type 0
Cleared = Byte comma (Byte letter End)

abbrev Level : List ℕ → Type 0
Level = Byte comma (Number false)

kill_forms : {t : List ℕ} → Shaped kill t → Cleared t ⊎ Numbered false Level t
unfolding comma
kill_forms (form.input v w n m) = inr (v, 44 ∷ w, refl, n, (refl, m))
kill_forms (form.no_inputs c s) = inl (refl, (same_letter s, refl))

cleared_into : (t : List ℕ) → Cleared t → Shaped kill t
unfolding comma
cleared_into [] h = absurd h
cleared_into (b ∷ []) h = absurd h.1
cleared_into (b ∷ c ∷ w) h = rw (eqb-true b 44 h.0, h.1.1) (form.no_inputs c (letter_same c h.1.0))

input_into : (v k : List ℕ) → Number false v → Level k → Shaped kill (v ++ k)
unfolding comma
input_into v [] n h = absurd h
input_into v (b ∷ w) n h = rw (eqb-true b 44 h.0) (form.input v w n h.1)

cleared_first : (t : List ℕ) → Cleared t → empty t ≡ true
unfolding comma
cleared_first [] h = absurd h
cleared_first (b ∷ t) h = h.0

level_stops : (k : List ℕ) → Level k → Stops k
unfolding comma
level_stops [] h = tt
level_stops (b ∷ k) h = rw (eqb-true b 44 h.0)

kill_some : {t : List ℕ} → Shaped kill t → End t → ⊥
kill_some s e = ⊎_elim (λ c. subst Cleared e c) (λ m. both_ways (empty (m.0 ++ m.1)) (number_first m.1 m.3) (ap empty (sym m.2 ∙ e))) (kill_forms s)

ranged_input : (f g : Field) → Ranged (judged f g)
ranged_input f g =
    ranged_then _ (ranged_kept f.at (ranged (pos 0) (pos 15) f.number)) (λ b. ranged_then _ (ranged_kept g.at (ranged (pos 0) (pos 1) g.number)) (λ l. value))

pub ranged_operands : (ts : List Settings) (k : ℕ) (fs : reader.Fields) → Ranged (operands ts k fs)
ranged_operands ts k [] = value
ranged_operands ts k (None ∷ fs) = ranged_then _ (ranged_operands ts (k + 1) fs) (λ os. value)
ranged_operands ts k (Some f ∷ fs) =
    ranged_then _ (ranged_then _ (ranged_kept f.at _) (λ z. value)) (λ o. ranged_then _ (ranged_operands ts (k + 1) fs) (λ os. value))

some_list : (ps : List Bool) → 0 < length ps → Fields ps true (48 ∷ [])
some_list [] h = absurd (omega arith)
some_list (p ∷ ps) h = form.last p ps (48 ∷ []) (zero_number p)

-- what is made of the value does not matter
pub reads_then : {A B : Type 0} {s : Shape} {g : ℕ → List ℕ → Result A Refusal} (f : A → B) → Reads s g → Reads s (λ at bs. then (g at bs) (λ a. Ok (f a)))
reads_then f (takes w sw j) = takes w sw (λ at bs. judged_then (λ a. Ok (f a)) (j at bs) (λ a. value))
reads_then f (never e is) = never e (λ at bs. ap (λ r. then r (λ a. Ok (f a))) (is at bs))

module _ (law : Typed) where
  judged_amount : {A : Type 0} (p : Bool) (judge : read.Number → Option A) (at : ℕ) (bs : List ℕ) → Judged (Number p) at bs (amount p judge at bs)
  judged_amount p judge at bs = judged_then (λ x. kept x.at (judge x.number)) (judged_single law p at bs) (λ x. ranged_kept x.at (judge x.number))

  pub reads_amount : {A : Type 0} (p : Bool) (judge : read.Number → Option A) → Reads (one p) (amount p judge)
  reads_amount p judge =
      takes (48 ∷ []) (form.number p (48 ∷ []) (zero_number p))
      (λ at bs. judged_as {L = Number p} (λ w n. form.number p w n) (λ t s a. one_out s) (judged_amount p judge at bs))

  pub reads_moving : (c : Code) (a : Axis) → Reads optional (moving c a)
  reads_moving c a = takes [] form.absent by
    where
      by : (at : ℕ) (bs : List ℕ) → Judged (Shaped optional) at bs (moving c a at bs)
      by at [] = right form.absent
      by at (b ∷ bs) =
          judged_as {L = Number false} (λ w n. form.present w n) (λ t s g. optional_out b bs s g)
          (judged_then _ (judged_amount false (ranged (negsuc 999999999) (pos 1000000000)) at (b ∷ bs)) (λ z. value))

  pub reads_listed : (ts : List Settings) → Reads (listed (each (pointed ts))) (reader-listed ts)
  unfolding axes
  reads_listed ts =
      let ps = each (pointed ts) in
      let some : 0 < length ps = rw length-each (omega arith) in
      takes (48 ∷ []) (form.fields ps (48 ∷ []) (some_list ps some))
      (λ at bs.
      judged_then (operands ts 0) (judged_as {L = Listed ps false} (λ w l. form.fields ps w (rw l.2 at l.1)) (λ t s a. listed_out s) (judged_fields law ps false at bs some))
      (ranged_operands ts 0))

  judged_removing : (at : ℕ) (bs : List ℕ) → Judged (Byte letter End) at bs (removing at bs)
  unfolding letter
  judged_removing at [] = judged_no_byte letter End at
  judged_removing at (b ∷ bs) = judged_byte letter End at [] refl b bs _ (judged_only _ (at + 1) bs)

  judged_level : (at : ℕ) (bs : List ℕ) → Judged Level at bs (level at bs)
  unfolding comma
  judged_level at [] = judged_no_byte comma (Number false) at
  judged_level at (b ∷ bs) = judged_byte comma (Number false) at (48 ∷ []) (zero_number false) b bs (single false (at + 1) bs) (judged_single law false (at + 1) bs)

  judged_killing : (at : ℕ) (bs : List ℕ) → Judged (Shaped kill) at bs (killing at bs)
  unfolding comma
  judged_killing at [] = judged_here at [] (λ t s a. kill_some s (agree_nil 0 t a))
  judged_killing at (b ∷ bs) =
      cond_both (eqb b 44) (removing (at + 1) bs) (contact at (b ∷ bs)) (Judged (Shaped kill) at (b ∷ bs))
      (λ y.
      judged_as {L = Cleared} cleared_into
      (λ t s a. ⊎_elim (λ c. c) (λ m. absurd (both_ways (empty t) (ap empty m.2 ∙ number_first m.1 m.3) (empty_first t (b ∷ bs) a ∙ y))) (kill_forms s))
      (rw y at (judged_byte comma (Byte letter End) at (67 ∷ []) (same_letter (inl refl), refl) b bs (removing (at + 1) bs) (judged_removing (at + 1) bs))))
      (λ n.
      judged_as {L = Numbered false Level} (λ w m. rw m.2 (input_into m.0 m.1 m.3 m.4))
      (λ t s a. ⊎_elim (λ c. absurd (both_ways (empty t) (empty_first t (b ∷ bs) a ∙ n) (cleared_first t c))) (λ m. m) (kill_forms s))
      (judged_number law false Level level_stops (44 ∷ 48 ∷ []) (refl, zero_number false) at (b ∷ bs) _
      (λ m _. judged_then (judged (record { at = at; number = m })) (judged_level (at + m.end) (drop m.end (b ∷ bs))) (ranged_input (record { at = at; number = m })))))

  pub reads_kill : Reads kill killing
  reads_kill = takes (44 ∷ 67 ∷ []) (form.no_inputs 67 (inl refl)) judged_killing
