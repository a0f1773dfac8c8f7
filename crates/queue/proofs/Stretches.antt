-- Every history of calls on a new queue keeps the account.
use Rattle.std.proofs.Common.{◌≡◌, ℕ, suc, ◌+◌, ◌-◌, ◌≤◌, true, false, List, [], ◌∷◌, ◌++◌, map, length, drop, ℤ, Ok, Err, Option, Result, sym, refl, ap, ◌∙◌, append_assoc, arith}
use Rattle.std.proofs.lemmas.List.{length-append, append-nil}
use Rattle.std.proofs.lemmas.Bool.{true≢false, false≢true}
use Rattle.queue.specs.declared.entry.Entry.{Entry}
use Rattle.queue.specs.declared.axis.Head.{Head}
use Rattle.queue.specs.declared.axis.Refusal.{Refusal}
use Rattle.queue.specs.declared.history.Step.{Step}
use Rattle.queue.specs.declared.history.Step.TheVariants.{Place, Look, Take, Clear, Free}
use Rattle.queue.specs.Entries.{listed}
use Rattle.queue.specs.Views.{View, fresh, verdict, placed_by, first_of}
use Rattle.queue.specs.History.{told, after, history, final}
use Rattle.queue.specs.Account.{entered, took, clears, all_entered, all_took, numbered, Starts, Uncleared, Leaves, Account}

-- What waits was taken in.
abbrev Counted : View → Type 0
Counted v = length v.entries ≤ v.count

-- The waiting entries under their numbers.
abbrev waiting : View → List Head
waiting v = numbered (v.count - length v.entries) v.entries

map-numbered : (n : ℕ) (es : List Entry) → map (λ h. h.entry) (numbered n es) ≡ es
map-numbered n [] = refl
map-numbered n (e ∷ es) = ap (λ l. e ∷ l) (map-numbered (n + 1) es)

length-numbered : (n : ℕ) (es : List Entry) → length (numbered n es) ≡ length es
length-numbered n [] = refl
length-numbered n (e ∷ es) = ap suc (length-numbered (n + 1) es)

-- What a step does to a queue that becomes `w` from `v`. Unless it clears, the numbers of what waited and what it placed
-- are those of what it took and what waits then.
record Moves (v w : View) (s : Step) : Type 0 where
  counted : Counted w
  count : w.count ≡ v.count + length (entered s)
  numbers : clears s ≡ false → (es : List Entry)
      → numbered (v.count - length v.entries) (v.entries ++ (entered s ++ es)) ≡ took s ++ numbered (w.count - length w.entries) (w.entries ++ es)
  clearing : clears s ≡ true → (w.entries ≡ []) × (s ≡ Clear (length v.entries))

moves_take : (es : List Entry) (p : Option ℤ) (n : ℕ) → length es ≤ n
    → Moves (record { entries = es; plan = p; count = n }) (record { entries = drop 1 es; plan = p; count = n }) (Take (first_of es n))
moves_take [] p n few =
    record { counted = few; count = omega arith; numbers = λ off es. refl; clearing = λ on. absurd (false≢true on) }
moves_take (e ∷ es) p n few =
    let next : n - length es ≡ n - length (e ∷ es) + 1 = omega arith in
    record { counted = omega arith; count = omega arith; numbers = λ off more. rw next; clearing = λ on. absurd (false≢true on) }

moves : (v : View) → Counted v → (s : Step) → Moves v (after v s) (told v s)
moves v few (Place b r) = by (verdict v b)
  where
    by : (r : Result (Unit {0}) Refusal) → Moves v (placed_by r v b) (Place b r)
    by (Ok done) =
        let same : v.count + length (listed b) - length (v.entries ++ listed b) ≡ v.count - length v.entries = simp length-append (omega arith) in
        record { counted = simp length-append (omega arith); count = refl; numbers = λ off es. rw (same, append_assoc); clearing = λ on. absurd (false≢true on) }
    by (Err refusal) =
        record { counted = few; count = omega arith; numbers = λ off es. refl; clearing = λ on. absurd (false≢true on) }
moves v few (Look h) =
    record { counted = few; count = omega arith; numbers = λ off es. refl; clearing = λ on. absurd (false≢true on) }
moves v few (Take h) = moves_take v.entries v.plan v.count few
moves v few (Clear n) =
    record { counted = omega arith; count = omega arith; numbers = λ off es. absurd (true≢false off); clearing = λ on. (refl, refl) }
moves v few (Free n) =
    record { counted = few; count = omega arith; numbers = λ off es. refl; clearing = λ on. absurd (false≢true on) }

-- What steps do.
runs_counted : (v : View) → Counted v → (ss : List Step) → Counted (final v ss)
runs_counted v few [] = few
runs_counted v few (s ∷ ss) = runs_counted (after v s) (moves v few s).counted ss

runs_count : (v : View) → Counted v → (ss : List Step) → (final v ss).count ≡ v.count + length (all_entered (history v ss))
runs_count v few [] = omega arith
runs_count v few (s ∷ ss) =
    let m = moves v few s in
    let more = runs_count (after v s) m.counted ss in
    simp length-append (omega (arith, m.count))

runs_numbers : (v : View) → Counted v → (ss : List Step) → Uncleared (history v ss)
    → numbered (v.count - length v.entries) (v.entries ++ all_entered (history v ss)) ≡ all_took (history v ss) ++ waiting (final v ss)
runs_numbers v few [] none = rw append-nil
runs_numbers v few (s ∷ ss) (on, none) =
    let m = moves v few s in
    m.numbers on (all_entered (history (after v s) ss))
    ∙ ap (λ l. took (told v s) ++ l) (runs_numbers (after v s) m.counted ss none)
    ∙ sym (append_assoc (took (told v s)) (all_took (history (after v s) ss)) _)

-- Where a stretch starts, nothing waits.
starts_empty : (v : View) → Counted v → (s : Step) (ss : List Step) → Starts (history v (s ∷ ss)) → (final v (s ∷ ss)).entries ≡ []
starts_empty v few s [] start = ((moves v few s).clearing start).0
starts_empty v few s (t ∷ ss) start = starts_empty (after v s) (moves v few s).counted t ss start

new_empty : (ss : List Step) → Starts (history fresh ss) → (final fresh ss).entries ≡ []
new_empty [] start = refl
new_empty (s ∷ ss) start = starts_empty fresh (omega arith) s ss start

-- A history cut in two is two histories.
record Cut (v : View) (ss front back : List Step) : Type 0 where
  first : List Step
  second : List Step
  front_is : history v first ≡ front
  back_is : history (final v first) second ≡ back
  end_is : final (final v first) second ≡ final v ss

cut : (v : View) (ss front back : List Step) → history v ss ≡ front ++ back → Cut v ss front back
cut v ss [] back e = record { first = []; second = ss; front_is = refl; back_is = e; end_is = refl }
cut v [] (f ∷ front) back e = let z : ◌≡◌ {A = ℕ} 0 1 = cc in absurd (omega arith)
cut v (s ∷ ss) (f ∷ front) back e =
    let same : told v s ≡ f = cc in
    let c = cut (after v s) ss front back (cc) in
    record { first = s ∷ c.first; second = c.second; front_is = let f = c.front_is in cc; back_is = c.back_is; end_is = c.end_is }

leaves : (first second : List Step) → Starts (history fresh first) → Uncleared (history (final fresh first) second)
    → Leaves (history fresh first) (history (final fresh first) second) (waiting (final (final fresh first) second))
leaves first second start none =
    let v = final fresh first in
    let few = runs_counted fresh (omega arith) first in
    let before : length (all_entered (history fresh first)) ≡ v.count - length {A = Entry} [] = omega (arith, runs_count fresh (omega arith) first) in
    ap (λ n. numbered n (all_entered (history v second))) before
    ∙ ap (λ es. numbered (v.count - length es) (es ++ all_entered (history v second))) (sym (new_empty first start))
    ∙ runs_numbers v few second none

leaves_at : (first second before ss : List Step) → history fresh first ≡ before → history (final fresh first) second ≡ ss → Starts before → Uncleared ss
    → Leaves before ss (waiting (final (final fresh first) second))
leaves_at first second before ss p q start none = rw (← p, ← q) (leaves first second (rw p start) (rw q none))

dropped : (v : View) → Counted v → (ss : List Step) (n : ℕ) (later : List Step) → history v ss ≡ Clear n ∷ later → length v.entries ≡ n
dropped v few [] n later e = let z : ◌≡◌ {A = ℕ} 0 1 = cc in absurd (omega arith)
dropped v few (s ∷ ss) n later e =
    let is : told v s ≡ Clear n = cc in
    let tells = ((moves v few s).clearing (ap clears is)).1 in
    cc

pub account : (ss : List Step) → Account (history fresh ss) (final fresh ss).entries
account ss =
    record {
      cleared = λ before stretch later n e start none.
          let c = cut fresh ss before (stretch ++ Clear n ∷ later) e in
          let v = final fresh c.first in
          let d = cut v c.second stretch (Clear n ∷ later) c.back_is in
          let w = final v d.first in
          (waiting w, leaves_at c.first d.first before stretch c.front_is d.front_is start none, length-numbered _ w.entries ∙ dropped w (runs_counted v (runs_counted fresh (omega arith) c.first) d.first) d.second n later d.back_is);
      last = λ before stretch e start none.
          let c = cut fresh ss before stretch e in
          let w = final (final fresh c.first) c.second in
          (waiting w, leaves_at c.first c.second before stretch c.front_is c.back_is start none, map-numbered _ w.entries ∙ ap (λ x. x.entries) c.end_is);
    }
