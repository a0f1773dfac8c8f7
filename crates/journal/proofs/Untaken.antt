-- A vector that was lent whole, and calls that the state does not take.
use Rattle.std.proofs.Common.{◌≡◌, ℕ, List, ◌++◌, length, take, ℤ, Result, Vec, refl, ap, ◌∙◌, arith}
use Rattle.std.specs.declared.alloc.Global.{Global}
use Rattle.std.proofs.lemmas.List.{take-append-le, take_all}
use Rattle.drive.specs.declared.health.Health.{Health}
use Rattle.drive.specs.Drive.{Ops}
use Rattle.command.specs.declared.request.Port.{Port}
use Rattle.model.specs.declared.refusal.Refusal.{Refusal}
use Rattle.model.specs.declared.row.Row.{Row}
use Rattle.model.specs.Controller as C
use Rattle.model.specs.Seen.{of_sheet}
use Rattle.controller.specs.Replies.{Took}
use Rattle.controller.proofs.Told.{Mute, rowed_all}
use Rattle.journal.specs.declared.calls.Call.{Call}
use Rattle.journal.specs.declared.calls.Call.TheVariants.{Set, Arm, Command, Sample, Step, Park}
use Rattle.journal.specs.Views.{call_view}

-- what a vector holds once all of it was lent and written
pub relent : {A : Type 0} (n : ℕ) (xs ys : List A) → length xs ≡ n → take n (xs ++ ys) ≡ xs
relent n xs ys h = take-append-le n xs ys (omega arith) ∙ take_all n xs (omega arith)

-- a sample or a step, `f` of its sheet, that was lent all of the sheet
pub rowed_whole : {S : Type 0} (f : List Row → C.After S) {c : C.Controller S} {t : C.Outcome} {r : Result (Unit {0}) Refusal} (n : ℕ) (rest : List Row) {lent sheet left : List Row} → lent ≡ sheet → Mute (f lent).outcome → Took (f lent) c r lent left → length left ≡ n → t ≡ of_sheet r (take n (left ++ rest)) → C.after c t ≡ f sheet
rowed_whole f {r = r} n rest same mute took all is = rowed_all _ mute took (is ∙ ap (of_sheet r) (relent n _ _ all)) ∙ ap f same

-- ---- calls that the state does not take

module _ {S : Type 0} (o : Ops S) where
  pub parked_untaken : (p : C.Parked S) (k : Call) → ((x : Vec ℕ Global) → k ≡ Set x → ⊥) → ((x : ℕ) → k ≡ Arm x → ⊥) → C.after (C.parked p) C.untaken ≡ C.call o (C.parked p) (call_view k)
  unfolding C.call
  parked_untaken p (Set text) no-set no_arm = absurd (no-set text refl)
  parked_untaken p (Arm w) no-set no_arm = absurd (no_arm w refl)
  parked_untaken p (Command port text sheet answer) no-set no_arm = refl
  parked_untaken p (Sample w sheet) no-set no_arm = refl
  parked_untaken p (Step readings h sheet) no-set no_arm = refl
  parked_untaken p Park no-set no_arm = refl

  pub live_untaken : (l : C.Live S) (k : Call) → ((p : Port) (x : Vec ℕ Global) (y : Vec Row Global) (z : Vec ℕ Global) → k ≡ Command p x y z → ⊥) → ((w : ℕ) (y : Vec Row Global) → k ≡ Sample w y → ⊥) → ((x : Vec ℤ Global) (h : Health) (y : Vec Row Global) → k ≡ Step x h y → ⊥) → (k ≡ Park → ⊥) → C.after (C.live l) C.untaken ≡ C.call o (C.live l) (call_view k)
  unfolding C.call
  live_untaken l (Set text) no-command no-sample no_step no-park = refl
  live_untaken l (Arm w) no-command no-sample no_step no-park = refl
  live_untaken l (Command port text sheet answer) no-command no-sample no_step no-park = absurd (no-command port text sheet answer refl)
  live_untaken l (Sample w sheet) no-command no-sample no_step no-park = absurd (no-sample w sheet refl)
  live_untaken l (Step readings h sheet) no-command no-sample no_step no-park = absurd (no_step readings h sheet refl)
  live_untaken l Park no-command no-sample no_step no-park = absurd (no-park refl)
