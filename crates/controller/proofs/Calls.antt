-- What a call comes to, once the sizes of what is lent were looked at.
use Rattle.std.proofs.Common.{◌≡◌, ℕ, ◌<◌, ◌≤◌, Bool, eqb, leb, List, [], ◌∷◌, ◌++◌, length, take, drop, ℤ, Result, sym, refl, ap, ◌∙◌, subst, append_assoc, arith, eq-eqb, ne_eqb}
use borrow.Author.Tests.{lt-leb}
use Rattle.std.specs.Prelude.{IfOk}
use Rattle.std.proofs.lemmas.Bool.{le-leb}
use Rattle.std.proofs.lemmas.List.{drop-append-le, take-append-drop, length-take-le}
use Rattle.drive.specs.declared.axis.Axis.{Axis}
use Rattle.drive.specs.declared.health.Health.{Health}
use Rattle.drive.specs.Axes.{axes}
use Rattle.drive.specs.Drive.{Ops}
use Rattle.queue.specs.declared.entry.Code.{Code}
use Rattle.command.specs.declared.request.Port.{Port}
use Rattle.command.specs.declared.request.Request.{Request}
use Rattle.command.specs.declared.request.Request.TheVariants.{Place, Clear}
use Rattle.command.specs.Requests.{Operands, batch_on}
use Rattle.model.specs.declared.row.Row.{Row}
use Rattle.model.specs.declared.refusal.Refusal.{Refusal}
use Rattle.model.specs.declared.refusal.Refusal.TheVariants.{Sheet, Answer, Readings}
use Rattle.model.specs.Rows.{nothing}
use Rattle.model.specs.Machine.{each, judged, turn, clearing}
use Rattle.command.specs.declared.request.Selection.{Selection}
use Rattle.model.specs.Controller.{Controller, Setup, Live, After, Outcome, untaken, done, told, dropped_all, no_rows, live, addressed, obey, place_unless, barring, conditions, command, sample, step, refused, after, all_parts, sampling, advancing, commanded, reading, unless_short, call}
use Rattle.parts.specs.declared.machine.Machine.{Machine}
use Rattle.parts.specs.Views.{machine_view, cleared_by}
use Rattle.controller.specs.Replies.{answered, sheet_after, block_after, Took, Did}

-- ---- what is shown of one is shown of the other

pub took_by : {S : Type 0} {a b : After S} {c : Controller S} {r : Result (Unit {0}) Refusal} {sheet sheet' : List Row} → a ≡ b → Took a c r sheet sheet' → Took b c r sheet sheet'
took_by {S} {a} {b} {c} {r} {sheet} {sheet'} e t = let P : After S → Type 0 = λ x. Took x c r sheet sheet' in subst P e t

pub did_by : {S : Type 0} {a b : After S} {c : Controller S} {r : Result ℕ Refusal} {sheet sheet' : List Row} {block block' : List ℕ} → a ≡ b → Did a c r sheet sheet' block block' → Did b c r sheet sheet' block block'
did_by {S} {a} {b} {c} {r} {sheet} {sheet'} {block} {block'} e d =
    let P : After S → Type 0 = λ x. Did x c r sheet sheet' block block' in subst P e d

-- ---- what is shown of a live controller taken apart, once `last` is its last axis

module _ {A D S : Type 0} (state : D → S) (last : Axis) where
  abbrev pub shown_apart : A × (Machine D × (Setup × (Selection × (Axis × (ℕ × (List ℕ × Unit {0})))))) → Controller S
  shown_apart (a, (m, (u, (s, (l, (w, (es, t))))))) =
      live (record { machine = machine_view state m; setup = u; selection = s; last = last; sampled = w; errors = es })

-- ---- the front of a block is lent, and the rest stays

kept_rest : (n : ℕ) (block : List ℕ) → n ≤ 192 → 192 ≤ length block → drop n (take 192 block) ++ drop 192 block ≡ drop n block
kept_rest n block h room =
    sym (drop-append-le n (take 192 block) (drop 192 block) (omega (arith, length-take-le 192 block room))) ∙ ap (drop n) (take-append-drop 192 block)

lent_block : (t : Outcome) (block front front' : List ℕ) → 192 ≤ length block → front ≡ take 192 block → IfOk (answered t) (λ n. n ≤ 192) →
    front' ≡ block_after t front → front' ++ drop 192 block ≡ block_after t block
lent_block (told rows bytes) block front front' room first fits e =
    ap (λ b. b ++ drop 192 block) (e ∙ ap (λ b. bytes ++ drop (length bytes) b) first)
    ∙ append_assoc bytes (drop (length bytes) (take 192 block)) (drop 192 block)
    ∙ ap (λ b. bytes ++ b) (kept_rest (length bytes) block fits room)
lent_block untaken block front front' room first fits e = ap (λ b. b ++ drop 192 block) (e ∙ first) ∙ take-append-drop 192 block
lent_block (refused r) block front front' room first fits e = ap (λ b. b ++ drop 192 block) (e ∙ first) ∙ take-append-drop 192 block
lent_block done block front front' room first fits e = ap (λ b. b ++ drop 192 block) (e ∙ first) ∙ take-append-drop 192 block
lent_block (dropped_all ns) block front front' room first fits e = ap (λ b. b ++ drop 192 block) (e ∙ first) ∙ take-append-drop 192 block

-- a command that was lent the whole sheet and the front of the block
pub lent : {S : Type 0} {a : After S} {c : Controller S} {r : Result ℕ Refusal} {rows sheet sheet' : List Row} {front front' : List ℕ} (block : List ℕ) →
    192 ≤ length block → rows ≡ sheet → front ≡ take 192 block → IfOk r (λ n. n ≤ 192) →
    Did a c r rows sheet' front front' → Did a c r sheet sheet' block (front' ++ drop 192 block)
lent {S} {a} {c} {r} {rows} {sheet} {sheet'} {front} {front'} block room whole first fits d = record {
  now = d.now;
  says = d.says;
  rows = d.rows ∙ ap (sheet_after a.outcome) whole;
  answer = lent_block a.outcome block front front' room first (subst (λ x. IfOk x (λ n. n ≤ 192)) d.says fits) d.answer;
}

-- ---- a request

-- the blank sheet as the code has it
pub blank_is : nothing ∷ nothing ∷ nothing ∷ nothing ∷ nothing ∷ nothing ∷ nothing ∷ nothing ∷ [] ≡ no_rows
unfolding axes
blank_is = refl

module _ {S : Type 0} (o : Ops S) (l : Live S) (last : Axis) where
  abbrev k : Live S
  k = addressed l l.selection last

  pub placing_is : (r : Request) (code : Code) (os : Operands) (go : Bool) → r ≡ Place code os go → place_unless o l k (batch_on r) (barring l.machine (batch_on r) conditions) ≡ obey o l last r
  placing_is r code os go is =
      ap (λ q. place_unless o l k (batch_on q) (barring l.machine (batch_on q) conditions)) is ∙ ap (obey o l last) (sym is)

  clearing_same : (os : Operands) (halt : Bool) → all_parts k (each axes (cleared_by o (Clear os halt) halt) l.machine) ≡ obey o l last (Clear os halt)
  unfolding cleared_by clearing
  clearing_same os halt = refl

  pub clearing_is : (r : Request) (os : Operands) (halt : Bool) → r ≡ Clear os halt → all_parts k (each axes (cleared_by o (Clear os halt) halt) l.machine) ≡ obey o l last r
  clearing_is r os halt is = clearing_same os halt ∙ ap (obey o l last) (sym is)

-- ---- the sizes of what is lent

module _ {S : Type 0} (l : Live S) (r : Refusal) (a : After S) (n : ℕ) where
  if_full : n ≡ axes → a ≡ unless_short (eqb n axes) r l a
  if_full h = ap (λ b. unless_short b r l a) (sym (eq-eqb n axes h))

  if_not : (n ≡ axes → ⊥) → after (live l) (refused r) ≡ unless_short (eqb n axes) r l a
  if_not h = ap (λ b. unless_short b r l a) (sym (ne_eqb n axes h))

  if_wide : 192 ≤ n → a ≡ unless_short (leb 192 n) r l a
  if_wide h = ap (λ b. unless_short b r l a) (sym (le-leb 192 n h))

  if_narrow : n < 192 → after (live l) (refused r) ≡ unless_short (leb 192 n) r l a
  if_narrow h = ap (λ b. unless_short b r l a) (sym (lt-leb 192 n h))

-- ---- the calls

module _ {S : Type 0} (o : Ops S) (l : Live S) (sheet : List Row) where
  module _ (w : ℕ) where
    pub sample_taken : length sheet ≡ axes → all_parts (sampling l w) (each axes (judged o w) l.machine) ≡ call o (live l) (sample w sheet)
    unfolding call
    sample_taken full = if_full l Sheet _ (length sheet) full

    pub sample_short : (length sheet ≡ axes → ⊥) → after (live l) (refused Sheet) ≡ call o (live l) (sample w sheet)
    unfolding call
    sample_short short = if_not l Sheet _ (length sheet) short

  module _ (readings : List ℤ) (h : Health) where
    abbrev stepping : After S
    stepping = all_parts l (each axes (turn o l.sampled) (advancing o l readings h))

    pub step_short : (length sheet ≡ axes → ⊥) → after (live l) (refused Sheet) ≡ call o (live l) (step readings h sheet)
    unfolding call
    step_short short = if_not l Sheet _ (length sheet) short

    pub step_unread : length sheet ≡ axes → (length readings ≡ axes → ⊥) → after (live l) (refused Readings) ≡ call o (live l) (step readings h sheet)
    unfolding call
    step_unread full short = if_not l Readings stepping (length readings) short ∙ if_full l Sheet _ (length sheet) full

    pub step_taken : length sheet ≡ axes → length readings ≡ axes → stepping ≡ call o (live l) (step readings h sheet)
    unfolding call
    step_taken full all = if_full l Readings stepping (length readings) all ∙ if_full l Sheet _ (length sheet) full

  module _ (port : Port) (text answer : List ℕ) where
    abbrev obeying : After S
    obeying = commanded o l port text (reading l port text)

    pub command_short : (length sheet ≡ axes → ⊥) → after (live l) (refused Sheet) ≡ call o (live l) (command port text sheet answer)
    unfolding call
    command_short short = if_not l Sheet _ (length sheet) short

    pub command_narrow : length sheet ≡ axes → length answer < 192 → after (live l) (refused Answer) ≡ call o (live l) (command port text sheet answer)
    unfolding call
    command_narrow full short = if_narrow l Answer obeying (length answer) short ∙ if_full l Sheet _ (length sheet) full

    pub command_taken : length sheet ≡ axes → 192 ≤ length answer → obeying ≡ call o (live l) (command port text sheet answer)
    unfolding call
    command_taken full room = if_wide l Answer obeying (length answer) room ∙ if_full l Sheet _ (length sheet) full
