-- That the account catches faults.
use Rattle.std.proofs.Common.{◌≡◌, ℕ, ◌+◌, true, List, [], ◌∷◌, ◌++◌, length, take, drop, Some, None, sym, refl, ap, ◌∙◌, subst, subst₂, arith, length-append}
use Rattle.std.specs.List.{AllByRecursion}
use Rattle.std.proofs.lemmas.Int.{ints}
use Rattle.contacts.specs.Kills.{hit, hit_below}
use Rattle.contacts.specs.Words.{written}
use Rattle.text.specs.Numbers.{reads}
use Rattle.names.specs.Tables.{named}
use Rattle.names.specs.Mount.{mount_names}
use Rattle.names.specs.Bench.{bench_names}
use Rattle.names.specs.Setting.{setting_names}
use Rattle.drive.specs.Axes.{axes, through}
use Rattle.command.specs.Fields.{fields}
use Rattle.command.specs.Reading.{read, read_setting}
use Rattle.queue.specs.declared.entry.Entry.{Entry}
use Rattle.model.specs.Machine.{each, clear, judged, next, perform, turn, clearing, placing}
use Rattle.model.specs.Controller.{Controller, barred, barring, call, new}
use Rattle.model.specs.Account.{Stamp, stamp, Event, quiet, accepts, executes, clears, event, Moment, History, end_of, events, latest, accepted_in, executed_in, accepted, executed, closes, drops, Open, Begins, counted, numbered, Span, led, waiting_at, kills_at, target_at, position_at, Account}
use Rattle.model.proofs.Runs.{length-first, first_accepted}
use Rattle.model.specs.Faults.{Spot, spots, idle, ma9, mr5, go, MA9, MR5, GO, Places, kill_input, executed_twice, out_of_order, wrong_serial, numbered_anew, lost, uncounted, overcounted, entry_outlives_kill, plan_outlives_kill, go_moves_nothing, moved_without_go, reckoned_early, accepted_while_killed, executed_while_killed, moved_while_killed, faults, Caught, Right}

infixr 5 ◌also◌
◌also◌ : {A B : Type 0} → A → B → A × B
◌also◌ a b = (a, b)

-- In a span those executed and those left are as many as those accepted, and those executed are the first of these.
module _ (n : ℕ) (vs : List Event) (left : List Entry) (s : Span n vs left) where
  span_counts : length (accepted vs) ≡ length (executed vs) + length left
  span_counts = let a = ap length s.accounted ∙ length-append s.first left in let b = length-first n vs left s in omega arith

  span_executes : executed vs ≡ numbered n (take (length (executed vs)) (accepted vs))
  span_executes = s.in_order ∙ ap (numbered n) (sym (first_accepted n vs left s))

-- A span of a history, where `bs` tells what happened before it and `vs` what happened in it.
module _ (before mid : History Spot) (bs vs : List Event) (p : events 0 idle before ≡ bs) (q : events 0 (end_of idle before) mid ≡ vs) (b : Begins bs) (o : Open vs) where
  abbrev begun : Controller Spot
  begun = end_of idle before

  abbrev ended : Controller Spot
  ended = end_of begun mid

  opened : Account spots 0 idle (before ++ (mid ++ [])) → Span (counted 0 bs) vs (waiting_at 0 ended)
  opened a = subst₂ (λ c v. Span (counted 0 c) v (waiting_at 0 ended)) p q (a.open_span before mid [] refl (subst Begins (sym p) b) (subst Open (sym q) o))

  misordered : (executed vs ≡ numbered (counted 0 bs) (take (length (executed vs)) (accepted vs)) → ⊥) → Account spots 0 idle (before ++ (mid ++ [])) → ⊥
  misordered wrong a = wrong (span_executes (counted 0 bs) vs (waiting_at 0 ended) (opened a))

  misplaced : (length (accepted vs) ≡ length (executed vs) + length (waiting_at 0 ended) → ⊥) → Account spots 0 idle (before ++ (mid ++ [])) → ⊥
  misplaced wrong a = wrong (span_counts (counted 0 bs) vs (waiting_at 0 ended) (opened a))

  misled : (target_at spots 0 ended ≡ led (target_at spots 0 begun) (take (length (executed vs)) (accepted vs)) → ⊥) → Account spots 0 idle (before ++ (mid ++ [])) → ⊥
  misled wrong a =
      wrong (subst (λ v. target_at spots 0 ended ≡ led (target_at spots 0 begun) (take (length (executed v)) (accepted v))) q (a.targets before mid [] refl (subst Begins (sym p) b) (subst Open (sym q) o)))

  miscounted : (m : Moment Spot) → let v = event 0 ended m.call m.outcome in
      closes v ≡ true → (length (accepted vs) ≡ length (executed vs) + drops v → ⊥) → Account spots 0 idle (before ++ (mid ++ (m ∷ []))) → ⊥
  miscounted m c wrong a =
      let r = a.closed_span before mid [] m refl (subst Begins (sym p) b) (subst Open (sym q) o) c in
      let s = subst₂ (λ c v. Span (counted 0 c) v r.0) p q r.1 in
      wrong (span_counts (counted 0 bs) vs r.0 s ∙ ap (λ n. length (executed vs) + n) r.2)

abbrev takes : Entry → Event
takes e = accepts (e ∷ [])

abbrev runs : ℕ → Entry → Event
runs n e = executes (stamp n e)

-- The number of the first.
abbrev serial_of : List Stamp → ℕ
serial_of [] = 0
serial_of (s ∷ ss) = s.serial

abbrev code_of : List Stamp → ℕ
code_of [] = 0
code_of (s ∷ ss) = s.code

module _ (ma : Places ma9 MA9) (mr : Places mr5 MR5) (g : Places go GO) (hits : hit kill_input 4 ≡ true) where
  -- While the latest sample kills.
  module _ (before : History Spot) (m : Moment Spot) (l : latest None before ≡ Some 4) (k : kills_at 0 (end_of idle before) ≡ kill_input) where
    frozen : Account spots 0 idle (before ++ (m ∷ [])) →
        let v = event 0 (end_of idle before) m.call m.outcome in (accepted_in v ≡ []) × (executed_in v ≡ []) × (position_at spots 0 m.now ≡ position_at spots 0 (end_of idle before))
    frozen a = a.killed before [] m 4 refl l (ap (λ j. hit j 4) k ∙ hits)

  caught : AllByRecursion (λ h. Account spots 0 idle h → ⊥) faults
  caught =
      misplaced [] executed_twice [] (takes GO ∷ runs 1 GO ∷ runs 2 GO ∷ []) refl (rw g) tt (refl also refl also refl also tt) (λ e. omega arith)
      also misordered [] out_of_order [] (takes MR5 ∷ takes GO ∷ runs 1 GO ∷ []) refl (rw (mr, g)) tt (refl also refl also refl also tt) (λ e. let z = ap code_of e in omega arith)
      also misordered [] wrong_serial [] (takes GO ∷ takes GO ∷ runs 2 GO ∷ []) refl (rw g) tt (refl also refl also refl also tt) (λ e. let z = ap serial_of e in omega arith)
      also misordered (take 2 numbered_anew) (drop 2 numbered_anew) (takes GO ∷ clears 1 ∷ []) (quiet ∷ takes GO ∷ runs 1 GO ∷ []) (rw g) (rw g) refl (refl also refl also refl also tt) (λ e. let z = ap serial_of e in omega arith)
      also misplaced [] lost [] (takes GO ∷ []) refl (rw g) tt (refl also tt) (λ e. omega arith)
      also miscounted [] (take 1 uncounted) [] (takes GO ∷ []) refl (rw g) tt (refl also tt) _ refl (λ e. omega arith)
      also miscounted [] (take 1 overcounted) [] (takes GO ∷ []) refl (rw g) tt (refl also tt) _ refl (λ e. omega arith)
      also misplaced (take 2 entry_outlives_kill) (drop 2 entry_outlives_kill) (takes GO ∷ clears 1 ∷ []) (quiet ∷ runs 1 GO ∷ []) (rw g) refl refl (refl also refl also tt) (λ e. omega arith)
      also misled (take 3 plan_outlives_kill) (drop 3 plan_outlives_kill) (takes MA9 ∷ runs 1 MA9 ∷ clears 0 ∷ []) (quiet ∷ takes GO ∷ runs 2 GO ∷ []) (rw ma) (rw g) refl (refl also refl also refl also tt) (λ e. omega (arith, ints))
      also misled [] go_moves_nothing [] (takes MA9 ∷ takes GO ∷ runs 1 MA9 ∷ runs 2 GO ∷ []) refl (rw (ma, g)) tt (refl also refl also refl also refl also tt) (λ e. omega (arith, ints))
      also misled [] moved_without_go [] (takes MR5 ∷ runs 1 MR5 ∷ []) refl (rw mr) tt (refl also refl also tt) (λ e. omega (arith, ints))
      also misled [] reckoned_early [] (takes MA9 ∷ takes GO ∷ takes MR5 ∷ takes GO ∷ runs 1 MA9 ∷ runs 2 GO ∷ runs 3 MR5 ∷ runs 4 GO ∷ []) refl (rw (ma, g, mr)) tt (refl also refl also refl also refl also refl also refl also refl also refl also tt) (λ e. omega (arith, ints))
      also (λ a. let z : ◌≡◌ {A = ℕ} 1 0 = ap length (rw g at (frozen (take 1 accepted_while_killed) _ refl refl a).0) in omega arith)
      also (λ a. let z : ◌≡◌ {A = ℕ} 1 0 = ap length (frozen (take 2 executed_while_killed) _ refl refl a).1 in omega arith)
      also (λ a. let z = (frozen (take 1 moved_while_killed) _ refl refl a).2 in omega (arith, ints))
      also tt

-- The texts place what they say, and the word 4, which has bit 2 alone, hits the kill input.
pub all_caught : Caught
unfolding axes read named mount_names reads hit hit_below written
all_caught = caught refl refl refl refl

pub right : Right
unfolding axes through each clear judged next perform turn clearing placing barred barring call new read read_setting named mount_names bench_names setting_names reads fields hit hit_below written
right = refl
