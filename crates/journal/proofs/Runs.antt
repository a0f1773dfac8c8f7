-- A run, call by call, and the account of its journal.
use Rattle.std.proofs.Common.{◌≡◌, List, [], ◌∷◌, ◌++◌, length, sym, refl, ap, ◌∙◌, subst, ap₂, append-nil, arith}
use Rattle.drive.specs.Drive.{Ops}
use Rattle.drive.specs.Laws.{Keeps}
use Rattle.model.specs.Controller.{Controller, Call, Outcome, After, call, new}
use Rattle.model.specs.Account.{History, Account, history, end_of}
use Rattle.model.proofs.Calls.{new_accounted}
use Rattle.journal.specs.Journals.{outcomes, journaled, Kept}

module _ {S : Type 0} (o : Ops S) where
  -- the controller after the calls
  abbrev left : Controller S → List Call → Controller S
  left c ks = end_of c (history o c ks)

  left_more : (c : Controller S) (ks : List Call) (k : Call) → left c (ks ++ (k ∷ [])) ≡ (call o (left c ks) k).now
  left_more c [] k = refl
  left_more c (j ∷ ks) k = left_more (call o c j).now ks k

  outcomes_more : (c : Controller S) (ks : List Call) (k : Call) → outcomes o c (ks ++ (k ∷ [])) ≡ outcomes o c ks ++ ((call o (left c ks) k).outcome ∷ [])
  outcomes_more c [] k = refl
  outcomes_more c (j ∷ ks) k = ap (λ ts. (call o c j).outcome ∷ ts) (outcomes_more (call o c j).now ks k)

  -- the calls `ks` were made on `c`: the controller is now `d`, and they told `ts`
  pub record Ran (c : Controller S) (ks : List Call) (d : Controller S) (ts : List Outcome) : Type 0 where
    pub at : d ≡ left c ks
    pub told : ts ≡ outcomes o c ks

  pub ran_none : (c : Controller S) {ts : List Outcome} → ts ≡ [] → Ran c [] c ts
  ran_none c none = record { at = refl; told = none }

  -- one call more; `ks'` and `ts'` are the calls and what they told, as the code has them
  pub ran_more : {c d : Controller S} {ks ks' : List Call} {ts ts' : List Outcome} (k : Call) (a : After S) → a ≡ call o d k → Ran c ks d ts → ks' ≡ ks ++ (k ∷ []) → ts' ≡ ts ++ (a.outcome ∷ []) → Ran c ks' a.now ts'
  ran_more {c} {d} {ks} {ks'} {ts} {ts'} k a is r calls tells =
      let one = is ∙ ap (λ x. call o x k) r.at in
      record {
        at = ap (λ b. b.now) one ∙ sym (left_more c ks k) ∙ ap (left c) (sym calls);
        told = tells ∙ ap₂ (λ l b. l ++ (b.outcome ∷ [])) r.told one ∙ sym (outcomes_more c ks k) ∙ ap (outcomes o c) (sym calls);
      }

  journaled_is : (c : Controller S) (ks : List Call) → journaled o c ks (outcomes o c ks) ≡ history o c ks
  journaled_is c [] = refl
  journaled_is c (k ∷ ks) = ap (λ h. record { call = k; outcome = (call o c k).outcome; now = (call o c k).now } ∷ h) (journaled_is (call o c k).now ks)

  pub kept : Keeps o → (s : S) (ks : List Call) (ts : List Outcome) → ts ≡ outcomes o (new o s) ks → Kept o s ks ts
  kept keeps s ks ts is x inside =
      let same = ap (journaled o (new o s) ks) is ∙ journaled_is (new o s) ks in
      let P : History S → Type 0 = λ h. Account o x (new o s) h in
      subst P (sym same) (new_accounted o keeps x inside s ks)

-- a list that is followed by nothing
pub all_came : {A : Type 0} (xs ys all : List A) → length ys ≡ 0 → xs ++ ys ≡ all → xs ≡ all
all_came xs [] all h e = sym (append-nil xs) ∙ e
all_came xs (y ∷ ys) all h e = absurd (omega arith)
