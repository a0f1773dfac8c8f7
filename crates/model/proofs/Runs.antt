-- The account of a history, from what each of its calls does to the axis.
use Rattle.std.proofs.Common.{◌≡◌, ℕ, ◌+◌, true, List, [], ◌∷◌, ◌++◌, length, take, Some, None, Option, sym, refl, ap, ◌∙◌, subst, append-nil, arith}
use Rattle.std.proofs.lemmas.List.{take_at}
use Rattle.contacts.specs.Kills.{hit}
use Rattle.drive.specs.Drive.{Ops}
use Rattle.queue.specs.declared.entry.Entry.{Entry}
use Rattle.queue.specs.Entries.{effects}
use Rattle.model.specs.Machine.{at}
use Rattle.model.specs.Controller.{Controller}
use Rattle.model.specs.Account.{Event, event, sampled, Moment, History, end_of, events, latest, accepted_in, executed_in, accepted, executed, Open, Begins, counted, numbered, Span, led, machine_of, waiting_at, kills_at, target_at, position_at, Account}
use Rattle.model.proofs.Moves.{Track, Moves, Fresh, closed_fresh, closed_drops, count_moves, Numbers, Went, went_step}

length-numbered : (n : ℕ) (es : List Entry) → length (numbered n es) ≡ length es
length-numbered n [] = refl
length-numbered n (e ∷ es) = let r = length-numbered (n + 1) es in omega arith

module _ (n : ℕ) (vs : List Event) (left : List Entry) (s : Span n vs left) where
  pub length-first : length s.first ≡ length (executed vs)
  length-first = sym (ap length s.in_order ∙ length-numbered n s.first)

  pub first_accepted : take (length (executed vs)) (accepted vs) ≡ s.first
  first_accepted = ap (take (length (executed vs))) s.accounted ∙ take_at s.first left (length (executed vs)) length-first

-- A span that begins with nothing waiting and no plan.
module _ (n : ℕ) (t : Track) (vs : List Event) (u : Track) (f : Fresh t) (w : Went n t vs u) where
  fresh_span : Span n vs u.queue.entries
  fresh_span = record { first = w.first; accounted = ap (λ es. es ++ accepted vs) (sym f.none_waits) ∙ w.entries; in_order = w.in_order }

  fresh_target : u.target ≡ led t.target (take (length (executed vs)) (accepted vs))
  unfolding fresh_span
  fresh_target =
      ap (λ g. g.target) w.aims
      ∙ ap (λ p. (effects (record { plan = p; target = t.target }) w.first).target) f.no_plan
      ∙ ap (led t.target) (sym (first_accepted n vs u.queue.entries fresh_span))

module _ {S : Type 0} (o : Ops S) (x : ℕ) where
  abbrev pub track : Controller S → Track
  track c = record { queue = (at x (machine_of c)).queue; target = target_at o x c }

  -- What a call does to the axis where the latest sample is `w`: what happened, and that nothing does while it hits a kill input.
  pub record Does (w : Option ℕ) (c : Controller S) (v : Event) (d : Controller S) : Type 0 where
    pub moves : Moves (track c) v (track d)
    pub frozen : (b : ℕ) → w ≡ Some b → hit (kills_at x c) b ≡ true → (accepted_in v ≡ []) × (executed_in v ≡ []) × (position_at o x d ≡ position_at o x c)

  -- Each call of the history does so.
  abbrev pub Follows : Option ℕ → Controller S → History S → Type 0
  Follows w c [] = Unit {0}
  Follows w c (m ∷ h) = Does w c (event x c m.call m.outcome) m.now × Follows (sampled m.call m.outcome w) m.now h

  parted : (w : Option ℕ) (c : Controller S) (a b : History S) → Follows w c (a ++ b) → Follows w c a × Follows (latest w a) (end_of c a) b
  parted w c [] b f = (tt, f)
  parted w c (m ∷ a) b f = let r = parted (sampled m.call m.outcome w) m.now a b f.1 in ((f.0, r.0), r.1)

  count_run : (w : Option ℕ) (c : Controller S) (h : History S) → Follows w c h → (track (end_of c h)).queue.count ≡ counted (track c).queue.count (events x c h)
  count_run w c [] f = refl
  count_run w c (m ∷ h) f =
      let v = event x c m.call m.outcome in
      count_run (sampled m.call m.outcome w) m.now h f.1 ∙ ap (λ n. counted n (events x m.now h)) (count_moves (track c) v (track m.now) f.0.moves)

  last_closed : (w : Option ℕ) (c : Controller S) (m : Moment S) (h : History S) → Follows w c (m ∷ h) → Begins (events x c (m ∷ h)) → Fresh (track (end_of c (m ∷ h)))
  last_closed w c m [] f b = closed_fresh (track c) (event x c m.call m.outcome) (track m.now) f.0.moves b
  last_closed w c m (n ∷ h) f b = last_closed (sampled m.call m.outcome w) m.now n h f.1 b

  begun_fresh : (w : Option ℕ) (c : Controller S) (h : History S) → Follows w c h → Fresh (track c) → Begins (events x c h) → Fresh (track (end_of c h))
  begun_fresh w c [] f s b = s
  begun_fresh w c (m ∷ h) f s b = last_closed w c m h f b

  went_run : (w : Option ℕ) (c : Controller S) (h : History S) (n : ℕ) → Follows w c h → Open (events x c h) → Numbers n (track c) →
      Went n (track c) (events x c h) (track (end_of c h))
  went_run w c [] n f p e = record { first = []; entries = append-nil (track c).queue.entries; in_order = refl; aims = refl }
  went_run w c (m ∷ h) n f p e =
      went_step n (track c) (event x c m.call m.outcome) (track m.now) (events x m.now h) (track (end_of m.now h)) f.0.moves p.0 e
      (λ k q. went_run (sampled m.call m.outcome w) m.now h k f.1 p.1 q)

  module _ (c : Controller S) (h : History S) (f : Follows None c h) (start : Fresh (track c)) (none : (track c).queue.count ≡ 0) where
    -- The calls before a span, those of the span, and those after it.
    three : (before mid later : History S) → h ≡ before ++ (mid ++ later) →
        Follows None c before × Follows (latest None before) (end_of c before) mid × Follows (latest (latest None before) mid) (end_of (end_of c before) mid) later
    three before mid later e =
        let a = parted None c before (mid ++ later) (subst (Follows None c) e f) in
        let b = parted (latest None before) (end_of c before) mid later a.1 in
        (a.0, b.0, b.1)

    begun : (before mid later : History S) → h ≡ before ++ (mid ++ later) → Begins (events x c before) → Fresh (track (end_of c before))
    begun before mid later e b = begun_fresh None c before (three before mid later e).0 start b

    went : (before mid later : History S) → h ≡ before ++ (mid ++ later) → Begins (events x c before) → Open (events x (end_of c before) mid) →
        Went (counted 0 (events x c before)) (track (end_of c before)) (events x (end_of c before) mid) (track (end_of (end_of c before) mid))
    went before mid later e b p =
        let parts = three before mid later e in
        let n = count_run None c before parts.0 ∙ ap (λ k. counted k (events x c before)) none in
        let l = ap length (begun before mid later e b).none_waits in
        went_run (latest None before) (end_of c before) mid (counted 0 (events x c before)) parts.1 p (omega arith)

    spans : (before mid later : History S) → h ≡ before ++ (mid ++ later) → Begins (events x c before) → Open (events x (end_of c before) mid) →
        Span (counted 0 (events x c before)) (events x (end_of c before) mid) (waiting_at x (end_of (end_of c before) mid))
    spans before mid later e b p = fresh_span _ (track (end_of c before)) _ (track (end_of (end_of c before) mid)) (begun before mid later e b) (went before mid later e b p)

    pub account : Account o x c h
    account = record {
      open_span = spans;
      targets = λ before mid later e b p.
          fresh_target _ (track (end_of c before)) _ (track (end_of (end_of c before) mid)) (begun before mid later e b) (went before mid later e b p);
      closed_span = λ before mid later m e b p q.
          let last = end_of (end_of c before) mid in (
            waiting_at x last,
            spans before mid (m ∷ later) e b p,
            closed_drops (track last) (event x last m.call m.outcome) (track m.now) (three before mid (m ∷ later) e).2.0.moves q,
          );
      killed = λ before later m w e. (three before [] (m ∷ later) e).2.0.frozen w;
    }
