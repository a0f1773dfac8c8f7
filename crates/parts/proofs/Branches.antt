-- The parts of a call, at what was found of an axis.
use Rattle.std.proofs.Common.{◌≡◌, ℕ, ◌+◌, ◌-◌, Bool, true, false, not, List, [], ◌∷◌, length, ℤ, Some, None, Option, Result, sym, refl, ap, ◌∙◌, ap₂}
use Rattle.drive.specs.declared.motion.Decline.{Decline}
use Rattle.drive.specs.Drive.{Ops, answer, still, reaches, reply, tried, left_by}
use Rattle.queue.specs.declared.entry.Code.{Code}
use Rattle.queue.specs.declared.entry.Code.TheVariants.{Ma, Mr, Go, Bh, Bl, Sw, Bw, Ws}
use Rattle.queue.specs.declared.entry.Entry.{Entry}
use Rattle.queue.specs.declared.axis.Head.{Head}
use Rattle.queue.specs.Views.{first_of, head_of}
use Rattle.model.specs.declared.row.Row.{Row}
use Rattle.model.specs.Rows.{nothing, in_motion, awaiting, drive_down, dead, by_reach}
use Rattle.model.specs.Machine.{Machine, Part, Next, stays, runs, overreaches, at, waiting, unless, held, reached, going, heading, queued, clear, next, perform, turn}
use Rattle.parts.specs.Turns.{answered, goes}

-- ---- the head of a queue

pub serial_of : (es : List Entry) (count : ℕ) (h : Head) → first_of es count ≡ Some h → h.serial ≡ count - length es + 1
serial_of [] count h e = cc
serial_of (e ∷ es) count h is = cc

-- GO goes its own way, and the others are executed.
module _ (p : Option ℤ) (down : Bool) (within : ℤ → Bool) (e : Entry) where
  pub heads_go : (c : Code) → c ≡ Go → going p down within e ≡ heading c p down within e
  heads_go c is = ap (λ x. heading x p down within e) (sym is)

  pub heads_other : (c : Code) → (c ≡ Go → ⊥) → runs e ≡ heading c p down within e
  heads_other Ma other = refl
  heads_other Mr other = refl
  heads_other Go other = absurd (other refl)
  heads_other Bh other = refl
  heads_other Bl other = refl
  heads_other Sw other = refl
  heads_other Bw other = refl
  heads_other Ws other = refl

answers : (down within : Bool) (e : Entry) (t : ℤ) → answered e t (answer down within) ≡ unless down drive_down (reached within e t)
answers true within e t = refl
answers false true e t = refl
answers false false e t = refl

-- ---- a step, by the head, by whether its axis is still, by whether it waits for an input, and by what else is found of it

abbrev found : Option Head → Bool → Bool → Next → Next
found None is_still holds n = stays nothing
found (Some h) is_still holds n = unless (not is_still) in_motion (unless holds awaiting n)

module _ {S : Type 0} (o : Ops S) (w k : ℕ) (m : Machine S) where
  abbrev holding : Option Head → Bool
  holding None = false
  holding (Some h) = held w h.entry

  abbrev headed : Option Head → Next
  headed None = stays nothing
  headed (Some h) = heading h.entry.code (at k m).queue.plan (o.down m.drive k) (reaches o m.drive k) h.entry

  finds : (es : List Entry) (count : ℕ) (is_still : Bool) →
      found (first_of es count) is_still (holding (first_of es count)) (headed (first_of es count))
      ≡ queued es is_still w (at k m).queue.plan (o.down m.drive k) (reaches o m.drive k)
  finds [] count is_still = refl
  finds (e ∷ es) count is_still = refl

  pub turned : (killed : Bool) (head : Option Head) (is_still holds : Bool) (n : Next) →
      killed ≡ (at k m).killed → head ≡ head_of (at k m).queue → is_still ≡ still o m.drive k → holds ≡ holding head → n ≡ headed head →
      perform o k m (unless killed dead (found head is_still holds n)) ≡ turn o w k m
  unfolding turn next
  turned killed head is_still holds n by-kill by-head by-still by-hold by-entry =
      ap (perform o k m)
      (ap₂ (λ b c. unless killed dead (found head is_still b c)) by-hold by-entry
      ∙ (λ i. unless (by-kill i) dead (found (by-head i) (by-still i) (holding (by-head i)) (headed (by-head i))))
      ∙ ap (unless (at k m).killed dead) (finds (waiting (at k m)) (at k m).queue.count _))

module _ {S : Type 0} (o : Ops S) (k : ℕ) (m : Machine S) where
  pub stayed : (r : Row) → ◌≡◌ {A = Part S Row} (record { now = m; tells = r }) (perform o k m (stays r))
  unfolding perform
  stayed r = refl

  pub overreached : (r : Part S ℕ) → r ≡ clear o true k m → ◌≡◌ {A = Part S Row} (record { now = r.now; tells = by_reach r.tells }) (perform o k m overreaches)
  unfolding perform
  overreached r is = ap (λ x. record { now = x.now; tells = by_reach x.tells }) is

  -- GO with a plan, which the drive has as `t'`
  module _ (r : Result (Unit {0}) Decline) (e : Entry) (t t' : ℤ) (same : t' ≡ t) (reply-is : r ≡ reply o m.drive k t') where
    pub replied : perform o k m (answered e t r) ≡ perform o k m (answered e t (reply o m.drive k t))
    replied = ap (λ x. perform o k m (answered e t x)) (reply-is ∙ ap (reply o m.drive k) same)

    pub left : (s : S) → s ≡ tried o m.drive k t' → s ≡ left_by r m.drive (o.begun m.drive k t)
    left s is = is ∙ ap₂ (λ x y. left_by x m.drive (o.begun m.drive k y)) (sym reply-is) same

  pub planless : (e : Entry) → None ≡ (at k m).queue.plan → runs e ≡ goes o k m e
  planless e is = ap (λ p. going p (o.down m.drive k) (reaches o m.drive k) e) is

  pub planned : (e : Entry) (t : ℤ) → Some t ≡ (at k m).queue.plan → answered e t (reply o m.drive k t) ≡ goes o k m e
  planned e t is =
      answers (o.down m.drive k) (reaches o m.drive k t) e t ∙ ap (λ p. going p (o.down m.drive k) (reaches o m.drive k) e) is
