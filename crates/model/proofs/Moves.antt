-- What an event makes of an axis's queue, plan and target.
use Rattle.std.proofs.Common.{◌≡◌, ℕ, ◌+◌, true, false, List, [], ◌∷◌, ◌++◌, length, ℤ, None, sym, ap, ◌∙◌, subst, true≢false, append_assoc, arith, length-append}
use Rattle.queue.specs.declared.entry.Entry.{Entry}
use Rattle.queue.specs.Entries.{Aim, effect, effects}
use Rattle.queue.specs.Views.{View, extended, cleared, fresh}
use Rattle.model.specs.Machine.{serial}
use Rattle.model.specs.Account.{Stamp, stamp, Event, quiet, accepts, executes, clears, arms, accepted, executed, closes, drops, counted_in, numbered}

-- An axis's queue, and its drive's target.
pub record Track : Type 0 where
  pub queue : View
  pub target : ℤ

abbrev pub aim : Track → Aim
aim t = record { plan = t.queue.plan; target = t.target }

abbrev pub bound : List Entry → ℕ → Aim → Track
bound es n a = record { queue = record { entries = es; plan = a.plan; count = n }; target = a.target }

-- The head is executed, under its number.
pub record Executes (t : Track) (s : Stamp) (u : Track) : Type 0 where
  pub head : Entry
  pub others : List Entry
  pub waited : t.queue.entries ≡ head ∷ others
  pub stamped : s ≡ stamp (serial t.queue) head
  pub leaves : u ≡ bound others t.queue.count (effect (aim t) head)

abbrev pub Moves : Track → Event → Track → Type 0
Moves t quiet u = u ≡ t
Moves t (accepts es) u = u ≡ record { queue = extended t.queue es; target = t.target }
Moves t (executes s) u = Executes t s u
Moves t (clears n) u = (u.queue ≡ cleared t.queue) × (length t.queue.entries ≡ n)
Moves t arms u = (u.queue ≡ fresh) × (t.queue.entries ≡ [])

-- ---- clearings

pub record Fresh (t : Track) : Type 0 where
  pub none_waits : t.queue.entries ≡ []
  pub no_plan : t.queue.plan ≡ None

pub closed_fresh : (t : Track) (v : Event) (u : Track) → Moves t v u → closes v ≡ true → Fresh u
closed_fresh t quiet u m e = absurd (true≢false (sym e))
closed_fresh t (accepts es) u m e = absurd (true≢false (sym e))
closed_fresh t (executes s) u m e = absurd (true≢false (sym e))
closed_fresh t (clears n) u m e = record { none_waits = ap (λ q. q.entries) m.0; no_plan = ap (λ q. q.plan) m.0 }
closed_fresh t arms u m e = record { none_waits = ap (λ q. q.entries) m.0; no_plan = ap (λ q. q.plan) m.0 }

pub closed_drops : (t : Track) (v : Event) (u : Track) → Moves t v u → closes v ≡ true → length t.queue.entries ≡ drops v
closed_drops t quiet u m e = absurd (true≢false (sym e))
closed_drops t (accepts es) u m e = absurd (true≢false (sym e))
closed_drops t (executes s) u m e = absurd (true≢false (sym e))
closed_drops t (clears n) u m e = m.1
closed_drops t arms u m e = ap length m.1

-- ---- numbers

pub count_moves : (t : Track) (v : Event) (u : Track) → Moves t v u → u.queue.count ≡ counted_in v t.queue.count
count_moves t quiet u m = ap (λ k. k.queue.count) m
count_moves t (accepts es) u m = ap (λ k. k.queue.count) m
count_moves t (executes s) u m = ap (λ k. k.queue.count) m.leaves
count_moves t (clears n) u m = ap (λ q. q.count) m.0
count_moves t arms u m = ap (λ q. q.count) m.0

-- The entries up to those waiting have the numbers up to `n`.
abbrev pub Numbers : ℕ → Track → Type 0
Numbers n t = t.queue.count ≡ n + length t.queue.entries

-- ---- a span

-- From `t` to `u`: those that waited and those accepted since are `first`, executed under the numbers after `n`, and then those waiting.
pub record Went (n : ℕ) (t : Track) (vs : List Event) (u : Track) : Type 0 where
  pub first : List Entry
  pub entries : t.queue.entries ++ accepted vs ≡ first ++ u.queue.entries
  pub in_order : executed vs ≡ numbered n first
  pub aims : aim u ≡ effects (aim t) first

went_on : (n : ℕ) (t : Track) (s : Stamp) (u : Track) (vs : List Event) (z : Track) → Executes t s u → Numbers n t →
    ((k : ℕ) → Numbers k u → Went k u vs z) → Went n t (executes s ∷ vs) z
went_on n t s u vs z m c rest =
    let l = ap length m.waited in
    let r = subst (λ k. Numbers (n + 1) k → Went (n + 1) k vs z) m.leaves (rest (n + 1)) (omega arith) in
    record {
      first = m.head ∷ r.first;
      entries = ap (λ es. es ++ accepted vs) m.waited ∙ ap {B = List Entry} (λ es. m.head ∷ es) r.entries;
      in_order = ap (λ a. a ∷ executed vs) (m.stamped ∙ ap (λ k. stamp k m.head) (omega arith)) ∙ ap {B = List Stamp} (λ ss. stamp (n + 1) m.head ∷ ss) r.in_order;
      aims = r.aims;
    }

pub went_step : (n : ℕ) (t : Track) (v : Event) (u : Track) (vs : List Event) (z : Track) → Moves t v u → closes v ≡ false → Numbers n t →
    ((k : ℕ) → Numbers k u → Went k u vs z) → Went n t (v ∷ vs) z
went_step n t quiet u vs z m e c rest =
    let r = subst (λ k. Numbers n k → Went n k vs z) m (rest n) c in
    record { first = r.first; entries = r.entries; in_order = r.in_order; aims = r.aims }
went_step n t (accepts es) u vs z m e c rest =
    let l = length-append t.queue.entries es in
    let r = subst (λ k. Numbers n k → Went n k vs z) m (rest n) (omega arith) in
    record {
      first = r.first;
      entries = sym (append_assoc t.queue.entries es (accepted vs)) ∙ r.entries;
      in_order = r.in_order;
      aims = r.aims;
    }
went_step n t (executes s) u vs z m e c rest = went_on n t s u vs z m c rest
went_step n t (clears k) u vs z m e c rest = absurd (true≢false e)
went_step n t arms u vs z m e c rest = absurd (true≢false e)
