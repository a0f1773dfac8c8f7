-- Each axis's part of a call: what it does to its axis, and that it spares the others.
use Rattle.std.proofs.Common.{◌≡◌, ℕ, ◌<◌, Bool, true, false, ◌≢◌, length, ℤ, Some, None, Option, sym, refl, ◌∙◌, subst}
use mathlib.Core.Bool.{false≢true}
use Rattle.contacts.specs.Kills.{hit}
use Rattle.drive.specs.Axes.{axes}
use Rattle.drive.specs.Drive.{Ops}
use Rattle.drive.specs.Laws.{Keeps, Aimed, Kept}
use Rattle.drive.proofs.Frames.{kept_same}
use Rattle.queue.specs.declared.entry.Batch.{Batch}
use Rattle.queue.specs.declared.entry.Batch.TheVariants.{One, Two}
use Rattle.queue.specs.Entries.{listed}
use Rattle.queue.specs.Views.{extended, placed}
use Rattle.command.specs.Requests.{Operands, named_in, entries_of}
use Rattle.model.specs.declared.row.Row.{Row}
use Rattle.model.specs.Machine.{Machine, at, emptied, waiting, with_queue, Next, stays, runs, begins, overreaches, next, perform, turn, halting, clear, judge, judged, clear_if, clearing, place, placing}
use Rattle.model.specs.Account.{quiet, clears, accepts, rowed, placed_or_rowed}
use Rattle.model.specs.Stances.{Stance, stance}
use Rattle.model.proofs.Stances.{aimed, written_at, Spares, spares_all, written_spares}
use Rattle.model.proofs.Deeds as deed
use Rattle.model.proofs.Deeds.{Deed, found, turned, row, Found, finds}

-- The target of an axis that is halted or not.
abbrev came_to : Bool → Stance → ℤ
came_to true v = v.position
came_to false v = v.target

-- An axis that is not killed takes what is placed on it.
abbrev pub Takes : Option Batch → Stance → Type 0
Takes None v = Unit {0}
Takes (Some b) v = (v.post.killed ≡ false) × (placed v.post.queue b ≡ extended v.post.queue (listed b))

accepts_listed : (b : Batch) (r : Row) → placed_or_rowed (listed b) r ≡ accepts (listed b)
accepts_listed (One e) r = refl
accepts_listed (Two e f) r = refl

module _ {S : Type 0} (o : Ops S) (keeps : Keeps o) where
  -- ---- the other axes

  halting_off : (halt : Bool) (s : S) (k : ℕ) → k < axes → (x : ℕ) → x < axes → x ≢ k → Kept o s (halting o halt s k) x
  halting_off true s k h x i n = keeps.halted_off s k x h i n
  halting_off false s k h x i n = kept_same s

  pub clear_spares : (halt : Bool) (k : ℕ) (m : Machine S) → k < axes → Spares o k m (clear o halt k m).now
  unfolding clear
  clear_spares halt k m h = written_spares o k m _ _ _ (halting_off halt m.drive k h)

  judge_spares : (b c : Bool) (k : ℕ) (m : Machine S) → k < axes → Spares o k m (judge o b c k m).now
  judge_spares false true k m h = written_spares o k m _ _ _ (halting_off true m.drive k h)
  judge_spares true false k m h = written_spares o k m _ _ _ (halting_off false m.drive k h)
  judge_spares false false k m h = spares_all o k m
  judge_spares true true k m h = spares_all o k m

  pub judged_spares : (w k : ℕ) (m : Machine S) → k < axes → Spares o k m (judged o w k m).now
  unfolding judged
  judged_spares w k m h = judge_spares (at k m).killed (hit (at k m).kills w) k m h

  perform_spares : (k : ℕ) (m : Machine S) (n : Next) → k < axes → Found (stance o k m) n → Spares o k m (perform o k m n).now
  unfolding perform
  perform_spares k m (stays r) h f = spares_all o k m
  perform_spares k m (runs e) h f = written_spares o k m m.drive _ _ (λ x i n. kept_same m.drive)
  perform_spares k m (begins e t) h f = written_spares o k m _ _ _ (λ x i n. keeps.begun_off m.drive k x t h i n f.3 f.4)
  perform_spares k m overreaches h f = clear_spares true k m h

  pub turn_spares : (w k : ℕ) (m : Machine S) → k < axes → Spares o k m (turn o w k m).now
  unfolding turn next
  turn_spares w k m h = perform_spares k m (next o w k m) h (finds w (stance o k m))

  clear_if_spares : (b halt : Bool) (k : ℕ) (m : Machine S) → k < axes → Spares o k m (clear_if o b halt k m).now
  clear_if_spares true halt k m h = clear_spares halt k m h
  clear_if_spares false halt k m h = spares_all o k m

  pub clearing_spares : (os : Operands) (halt : Bool) (k : ℕ) (m : Machine S) → k < axes → Spares o k m (clearing o os halt k m).now
  unfolding clearing
  clearing_spares os halt k m h = clear_if_spares (named_in os k) halt k m h

  place_spares : (b : Option Batch) (k : ℕ) (m : Machine S) → Spares o k m (place o b k m).now
  place_spares None k m = spares_all o k m
  place_spares (Some b) k m = written_spares o k m m.drive _ _ (λ x i n. kept_same m.drive)

  pub placing_spares : (batches : ℕ → Option Batch) (k : ℕ) (m : Machine S) → k < axes → Spares o k m (placing o batches k m).now
  unfolding placing
  placing_spares batches k m h = place_spares (batches k) k m

  -- ---- its own axis

  module _ (x : ℕ) (inside : x < axes) (m : Machine S) (size : x < length m.posts) where
    abbrev now : Stance
    now = stance o x m

    halting_at : (halt : Bool) → Aimed o m.drive (halting o halt m.drive x) x (came_to halt now)
    halting_at true = keeps.halted_at m.drive x inside
    halting_at false = kept_same m.drive

    pub clear_at : (halt : Bool) → stance o x (clear o halt x m).now ≡ aimed now (emptied (at x m)) (came_to halt now)
    unfolding clear
    clear_at halt = written_at o x m _ _ _ size (halting_at halt)

    clear_stands : (halt : Bool) → deed.Stands now → (at x m).killed ≡ true → came_to halt now ≡ now.position
    clear_stands true s k = refl
    clear_stands false s k = s k

    pub clear_deed : (w : ℕ) (halt : Bool) → Deed w w now (clears (clear o halt x m).tells) (stance o x (clear o halt x m).now)
    unfolding clear
    clear_deed w halt = subst (Deed w w now (clears (length (waiting (at x m))))) (sym (clear_at halt)) (deed.clearing w now w (at x m).killed (came_to halt now) (clear_stands halt) (λ k. k))

    judge_deed : (w w' : ℕ) (b c : Bool) → (at x m).killed ≡ b → hit (at x m).kills w' ≡ c →
        Deed w w' now (rowed (judge o b c x m).tells) (stance o x (judge o b c x m).now)
    judge_deed w w' false true e h =
        subst (Deed w w' now (clears (length (waiting (at x m))))) (sym (written_at o x m _ _ _ size (halting_at true)))
        (deed.clearing w now w' true now.position (λ s k. refl) (λ k. sym h))
    judge_deed w w' true false e h =
        subst (Deed w w' now quiet) (sym (written_at o x m _ _ _ size (halting_at false)))
        (deed.rests w now w' false (λ s k. absurd (false≢true k)) (λ k. sym h))
    judge_deed w w' false false e h = deed.rests w now w' (at x m).killed (λ s. s) (λ k. e ∙ sym h)
    judge_deed w w' true true e h = deed.rests w now w' (at x m).killed (λ s. s) (λ k. e ∙ sym h)

    pub judged_deed : (w w' : ℕ) → Deed w w' now (rowed (judged o w' x m).tells) (stance o x (judged o w' x m).now)
    unfolding judged
    judged_deed w w' = judge_deed w w' (at x m).killed (hit (at x m).kills w') refl refl

    perform_at : (n : Next) → Found now n → ((perform o x m n).tells ≡ row now n) × (stance o x (perform o x m n).now ≡ turned now n)
    unfolding perform clear
    perform_at (stays r) f = (refl, refl)
    perform_at (runs e) f = (refl, written_at o x m m.drive _ _ size (kept_same m.drive))
    perform_at (begins e t) f = (refl, written_at o x m _ _ _ size (keeps.begun_at m.drive x t inside f.3 f.4))
    perform_at overreaches f = (refl, clear_at true)

    -- A turn is decided by the sampled word and by how the axis stands.
    pub turn_at : (w : ℕ) → ((turn o w x m).tells ≡ row now (found w now)) × (stance o x (turn o w x m).now ≡ turned now (found w now))
    unfolding turn next
    turn_at w = perform_at (next o w x m) (finds w now)

    pub turn_deed : (w : ℕ) → Deed w w now (rowed (turn o w x m).tells) (stance o x (turn o w x m).now)
    turn_deed w = rw ((turn_at w).0, (turn_at w).1) (deed.turning w now (found w now) (finds w now))

    clear_if_deed : (w : ℕ) (b halt : Bool) → Deed w w now (rowed (clear_if o b halt x m).tells) (stance o x (clear_if o b halt x m).now)
    clear_if_deed w true halt = clear_deed w halt
    clear_if_deed w false halt = deed.nothing_done w now

    pub clearing_deed : (w : ℕ) (os : Operands) (halt : Bool) → Deed w w now (rowed (clearing o os halt x m).tells) (stance o x (clearing o os halt x m).now)
    unfolding clearing
    clearing_deed w os halt = clear_if_deed w (named_in os x) halt

    place_deed : (w : ℕ) (b : Option Batch) → Takes b now → Deed w w now (placed_or_rowed (entries_of b) (place o b x m).tells) (stance o x (place o b x m).now)
    place_deed w None t = deed.nothing_done w now
    place_deed w (Some b) t =
        let q = written_at o x m m.drive (with_queue (at x m) (placed (at x m).queue b)) _ size (kept_same m.drive) in
        rw (accepts_listed, q, t.1) (deed.accepting w now t.0 (listed b))

    pub placing_deed : (w : ℕ) (batches : ℕ → Option Batch) → Takes (batches x) now →
        Deed w w now (placed_or_rowed (entries_of (batches x)) (placing o batches x m).tells) (stance o x (placing o batches x m).now)
    unfolding placing
    placing_deed w batches t = place_deed w (batches x) t
