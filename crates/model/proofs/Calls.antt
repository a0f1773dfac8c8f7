-- What each call does to one axis, and what holds of it between calls.
use Rattle.std.proofs.Common.{◌≡◌, ℕ, zero, suc, ◌<◌, Bool, true, false, cond, eqb, leb, List, [], ◌∷◌, length, get_or, set, ℤ, pos, Some, None, Ok, Err, Option, Result, sym, refl, ap, ◌∙◌, subst, inl, inr, le_refl, le_of_suc-le-suc, not-suc-le-zero, arith, length-set}
use lib.ListN.{length-map, length-replicate, get_or-replicate}
use Rattle.std.specs.List.{AllByRecursion}
use Rattle.std.proofs.lemmas.List.{get_or-map}
use Rattle.std.proofs.lemmas.Int.{ints}
use Rattle.std.proofs.lemmas.Bool.{or_parts}
use Rattle.contacts.specs.declared.kill.KillInputs.{KillInputs}
use Rattle.contacts.specs.Words.{contact_of}
use Rattle.contacts.specs.Kills.{hit, with_kill, no_kills}
use Rattle.drive.specs.declared.axis.Axis.{Axis}
use Rattle.drive.specs.declared.axis.Axis.TheVariants.{X}
use Rattle.drive.specs.declared.health.Health.{Health}
use Rattle.drive.specs.Axes.{axes, in_order, index}
use Rattle.drive.specs.Range.{Between}
use Rattle.drive.specs.Drive.{Ops}
use Rattle.drive.specs.Laws.{Keeps}
use Rattle.drive.proofs.Frames.{halts_below}
use Rattle.drive.proofs.Indices.{index_of}
use Rattle.queue.specs.declared.entry.Batch.{Batch}
use Rattle.queue.specs.declared.entry.Code.{Code}
use Rattle.queue.specs.Views.{judged as verdict-of, lacks_commands, lacks_arguments, lacks_count, placed_by}
use Rattle.command.specs.declared.request.Port.{Port}
use Rattle.command.specs.declared.request.Selection.{Selection}
use Rattle.command.specs.declared.request.Setting.{Setting}
use Rattle.command.specs.declared.request.Setting.TheVariants as Sets
use Rattle.command.specs.declared.request.Request.{Request}
use Rattle.command.specs.declared.request.Request.TheVariants.{Select, Place, Clear, Positions, Places, ErrorRecord}
use Rattle.command.specs.declared.request.Command.{Command}
use Rattle.command.specs.declared.request.Refusal.{Refusal as Unread}
use Rattle.command.specs.Requests.{Operands, batch_on, entries_of}
use Rattle.command.specs.Reading.{read_setting}
use Rattle.model.specs.declared.row.Row.{Row}
use Rattle.model.specs.declared.refusal.Refusal.{Refusal}
use Rattle.model.specs.declared.refusal.Refusal.TheVariants.{Sheet, Answer, Readings}
use Rattle.model.specs.Rows.{nothing}
use Rattle.model.specs.Machine.{Post, Machine, Part, at, blank, waiting, each, clear, judged, turn, clearing, placing}
use Rattle.model.specs.Controller.{Setup, Parked, Live, Controller, parked, live, Call, set_call, arm, command, sample, step, park, refused, done, After, after, apply, kills_set, Condition, conditions, fails_for, fails_at, barred, or_else, barring, no_rows, reading, addressed, sampling, all_parts, place_unless, obey, commanded, unless_short, advancing, armed, arming, parking, setting_by, call, new}
use Rattle.model.specs.Account.{Event, quiet, clears, rowed, placed_or_rowed, commands, event, sampled, machine_of, history, Account}
use Rattle.model.specs.Stances.{Stance, stance}
use Rattle.model.proofs.Moves.{Moves}
use Rattle.model.proofs.Runs.{Does, Follows, account}
use Rattle.model.proofs.Stances.{Spares}
use Rattle.model.proofs.Folds.{took, each_size}
use Rattle.model.proofs.Deeds.{course, Stands, Deed, nothing_done}
use Rattle.model.proofs.Turns.{Takes, clear_spares, judged_spares, turn_spares, clearing_spares, placing_spares, clear_at, clear_deed, judged_deed, turn_deed, clearing_deed, placing_deed}

-- ---- the drive's advance, before the axes' turns

stays_at : (p t q : ℤ) → Between p t q → t ≡ p → q ≡ p
stays_at p t q (inl b) e = let l = b.0 in let u = b.1 in omega (arith, ints)
stays_at p t q (inr b) e = let l = b.0 in let u = b.1 in omega (arith, ints)

-- What is done to an axis that was advanced from `v` to `u` is done to `v`.
advanced_deed : (w : ℕ) (v u : Stance) (e : Event) (z : Stance) → u.post ≡ v.post → u.target ≡ v.target → (v.target ≡ v.position → u.position ≡ v.position) →
    Deed w w u e z → Deed w w v e z
advanced_deed w v u e z p t q d =
    let killed = ap (λ a. a.killed) p in
    let still : Stands v → Stands u = λ s k. let j = s (sym killed ∙ k) in t ∙ j ∙ sym (q j) in
    record {
      moves = subst (λ c. Moves c e (course z)) (λ i. record { queue = (p i).queue; target = t i }) d.moves;
      idle = λ k. d.idle (killed ∙ k);
      position = λ s k. d.position (still s) (killed ∙ k) ∙ q (s k);
      stands = λ s. d.stands (still s);
      marks = λ k. d.marks (killed ∙ k ∙ ap (λ a. hit a.kills w) (sym p));
    }

-- ---- placing

cond_none : {A : Type 0} (b : Bool) (r : A) (y : Option A) → cond b (Some r) y ≡ None → (b ≡ false) × (y ≡ None)
cond_none true r y e = (cc, cc)
cond_none false r y e = (refl, e)

else_none : {S : Type 0} (m : Machine S) (batches : ℕ → Option Batch) (a b : Option Refusal) → or_else m batches a b ≡ None → (a ≡ None) × (b ≡ None)
else_none m batches (Some r) b e = (e, cc)
else_none m batches None b e = (refl, e)

verdict_ok : (a b c : Bool) → a ≡ false → b ≡ false → c ≡ false → verdict-of a b c ≡ Ok tt
verdict_ok a b c p q r = rw (p, q, r)

takes : (b : Option Batch) (v : Stance) → AllByRecursion (λ c. fails_for c v.post b ≡ false) conditions → Takes b v
takes None v h = tt
takes (Some b) v h =
    let q = v.post.queue in
    let p = or_parts (lacks_commands q b) (lacks_arguments q b) h.1.0 in
    (h.0, ap (λ r. placed_by r q b) (verdict_ok (lacks_commands q b) (lacks_arguments q b) (lacks_count q b) p.0 p.1 h.1.1.0))

module _ {S : Type 0} (m : Machine S) (batches : ℕ → Option Batch) where
  unbarred : (c : Condition) (ys : List Axis) (i : ℕ) → i < length ys → barred m batches c ys ≡ None → fails_at m batches c (get_or ys i X) ≡ false
  unfolding barred
  unbarred c [] i h e = absurd (not-suc-le-zero h)
  unbarred c (y ∷ ys) zero h e = (cond_none (fails_at m batches c y) _ (barred m batches c ys) e).0
  unbarred c (y ∷ ys) (suc i) h e = unbarred c ys i (le_of_suc-le-suc h) (cond_none (fails_at m batches c y) _ (barred m batches c ys) e).1

  passes : (x : ℕ) → x < axes → (cs : List Condition) → barring m batches cs ≡ None → AllByRecursion (λ c. fails_for c (at x m) (batches x) ≡ false) cs
  unfolding barring axes
  passes x h [] e = tt
  passes x h (c ∷ cs) e =
      let n = else_none m batches (barred m batches c in_order) (barring m batches cs) e in (
        subst (λ k. fails_for c (at k m) (batches k) ≡ false) (index_of x X h) (unbarred c in_order x h n.0),
        passes x h cs n.1,
      )

-- ---- settings

set_queue : (ps : List Post) (k x : ℕ) (q : Post) → q.queue ≡ (get_or ps k blank).queue → (get_or (set ps k q) x blank).queue ≡ (get_or ps x blank).queue
set_queue [] k x q e = refl
set_queue (p ∷ ps) zero zero q e = e
set_queue (p ∷ ps) zero (suc x) q e = refl
set_queue (p ∷ ps) (suc k) zero q e = refl
set_queue (p ∷ ps) (suc k) (suc x) q e = set_queue ps k x q e

module _ {S : Type 0} (o : Ops S) (keeps : Keeps o) (x : ℕ) (inside : x < axes) where
  -- ---- what holds of the axis between calls

  -- While parked: nothing waits, and it is still.
  pub record Resting (m : Machine S) : Type 0 where
    pub size : length m.posts ≡ axes
    pub none_waits : waiting (at x m) ≡ []
    pub still : o.target m.drive x ≡ o.position m.drive x

  -- While live, under the word `b`: it is killed if the word hits a kill input, and then it is still.
  pub record Running (w : Option ℕ) (b : ℕ) (m : Machine S) : Type 0 where
    pub size : length m.posts ≡ axes
    pub word : w ≡ Some b
    pub marked : (at x m).killed ≡ hit (at x m).kills b
    pub stands : Stands (stance o x m)

  abbrev pub Good : Option ℕ → Controller S → Type 0
  Good w (parked p) = Resting p.machine
  Good w (live l) = Running w l.sampled l.machine

  abbrev Goes : Option ℕ → Controller S → Event → Option ℕ → Controller S → Type 0
  Goes w c v w' d = Does o x w c v d × Good w' d

  abbrev pub Kept : Option ℕ → Controller S → Call → After S → Type 0
  Kept w c k a = Goes w c (event x c k a.outcome) (sampled k a.outcome w) a.now

  unchanged : (w : Option ℕ) (c : Controller S) → Good w c → Goes w c quiet w c
  unchanged w c g = (record { moves = refl; frozen = λ b e h. (refl, refl, refl) }, g)

  done_live : (w : Option ℕ) (l : Live S) (v : Event) (b : ℕ) (d : Controller S) → Good w (live l) → Deed l.sampled b (stance o x l.machine) v (stance o x (machine_of d)) →
      Does o x w (live l) v d
  done_live w l v b d g e = record {
    moves = e.moves;
    frozen = λ c q h.
        let same : l.sampled ≡ c = cc (g.word, q) in
        let dead = g.marked ∙ ap (hit (at x l.machine).kills) same ∙ h in
        ((e.idle dead).0, (e.idle dead).1, e.position g.stands dead);
  }

  lived : (w w' : Option ℕ) (l k : Live S) (v : Event) → Good w (live l) → w' ≡ Some k.sampled →
      Deed l.sampled k.sampled (stance o x l.machine) v (stance o x k.machine) → length k.machine.posts ≡ length l.machine.posts →
      Goes w (live l) v w' (live k)
  lived w w' l k v g e d s = (
    done_live w l v k.sampled (live k) g d,
    record { size = s ∙ g.size; word = e; marked = d.marks g.marked; stands = d.stands g.stands },
  )

  -- ---- all axes' parts of a call

  module _ {R : Type 0} (f : ℕ → Machine S → Part S R) (spares : (k : ℕ) (m : Machine S) → k < axes → Spares o k m (f k m).now) where
    parts_size : (m : Machine S) → length (each axes f m).now.posts ≡ length m.posts
    parts_size m = each_size o f spares axes m (le_refl axes)

    parts : (tell : R → Event) (w w' : ℕ) (m : Machine S) → length m.posts ≡ axes →
        ((mid : Machine S) → stance o x mid ≡ stance o x m → x < length mid.posts → Deed w w' (stance o x mid) (tell (f x mid).tells) (stance o x (f x mid).now)) →
        (d : R) → Deed w w' (stance o x m) (tell (get_or (each axes f m).tells x d)) (stance o x (each axes f m).now)
    parts tell w w' m size own d =
        let t = took o f spares x inside axes m (le_refl axes) inside in
        let i : x < length t.mid.posts = omega (arith, t.size) in
        rw (t.tells d, t.after) (subst (λ v. Deed w w' v (tell (f x t.mid).tells) (stance o x (f x t.mid).now)) t.before (own t.mid t.before i))

  -- ---- the calls of a live controller

  refusing : (P : After S → Type 0) (b : Bool) (r : Refusal) (l : Live S) (a : After S) → P (after (live l) (refused r)) → P a → P (unless_short b r l a)
  refusing P true r l a no-go go = go
  refusing P false r l a no-go go = no-go

  -- With other addressees, and another error record.
  abbrev but : Live S → Selection → Axis → List ℕ → Live S
  but l s a es = record { machine = l.machine; setup = l.setup; selection = s; last = a; sampled = l.sampled; errors = es }

  readdressed : (w : Option ℕ) (l : Live S) (s : Selection) (a : Axis) (es : List ℕ) → Good w (live l) → Goes w (live l) quiet w (live (but l s a es))
  readdressed w l s a es g = lived w w l (but l s a es) quiet g g.word (nothing_done l.sampled (stance o x l.machine)) refl

  -- A question or a selection.
  answers : (w : Option ℕ) (l : Live S) (s : Selection) (a : Axis) (es : List ℕ) → Good w (live l) → Goes w (live l) (rowed (get_or no_rows x nothing)) w (live (but l s a es))
  answers w l s a es g = subst (λ r. Goes w (live l) (rowed r) w (live (but l s a es))) (sym (get_or-replicate axes x nothing nothing inside)) (readdressed w l s a es g)

  abbrev asking : Request → Axis → Result Command Unread
  asking q a = Ok (record { request = q; last = a })

  module _ (w : Option ℕ) (l : Live S) (g : Good w (live l)) (a : Axis) where
    placed : (c : Code) (os : Operands) (go : Bool) (r : Option Refusal) → barring l.machine (batch_on (Place c os go)) conditions ≡ r →
        let t = place_unless o l (addressed l l.selection a) (batch_on (Place c os go)) r in Goes w (live l) (commands x (asking (Place c os go) a) t.outcome) w t.now
    placed c os go (Some q) e = unchanged w (live l) g
    placed c os go None e =
        let b = batch_on (Place c os go) in
        let able = takes (b x) (stance o x l.machine) (passes l.machine b x inside conditions e) in
        lived w w l _ _ g g.word
        (parts (placing o b) (placing_spares o keeps b) (placed_or_rowed (entries_of (b x))) l.sampled l.sampled l.machine g.size
        (λ mid s i. placing_deed o keeps x inside mid i l.sampled b (subst (Takes (b x)) (sym s) able)) nothing)
        (parts_size (placing o b) (placing_spares o keeps b) l.machine)

    obeyed : (q : Request) → Goes w (live l) (commands x (asking q a) (obey o l a q).outcome) w (obey o l a q).now
    obeyed (Select s) = answers w l s a l.errors g
    obeyed (Place c os go) = placed c os go (barring l.machine (batch_on (Place c os go)) conditions) refl
    obeyed (Clear os halt) =
        lived w w l _ _ g g.word
        (parts (clearing o os halt) (clearing_spares o keeps os halt) rowed l.sampled l.sampled l.machine g.size
        (λ mid s i. clearing_deed o keeps x inside mid i l.sampled os halt) nothing)
        (parts_size (clearing o os halt) (clearing_spares o keeps os halt) l.machine)
    obeyed (Positions s) = answers w l l.selection a l.errors g
    obeyed (Places s) = answers w l l.selection a l.errors g
    obeyed ErrorRecord = answers w l l.selection a [] g

  module _ (w : Option ℕ) (l : Live S) (g : Good w (live l)) where
    heard : (port : Port) (text : List ℕ) (r : Result Command Unread) → Goes w (live l) (commands x r (commanded o l port text r).outcome) w (commanded o l port text r).now
    heard port text (Ok c) = obeyed w l g c.last c.request
    heard port text (Err r) = readdressed w l l.selection l.last _ g

    kept_sample : (b : ℕ) (sheet : List Row) → Kept w (live l) (sample b sheet) (all_parts (sampling l b) (each axes (judged o b) l.machine))
    kept_sample b sheet =
        lived w (Some b) l _ _ g refl
        (parts (judged o b) (judged_spares o keeps b) rowed l.sampled b l.machine g.size
        (λ mid s i. judged_deed o keeps x inside mid i l.sampled b) nothing)
        (parts_size (judged o b) (judged_spares o keeps b) l.machine)

    kept_step : (readings : List ℤ) (h : Health) (sheet : List Row) →
        Kept w (live l) (step readings h sheet) (all_parts l (each axes (turn o l.sampled) (advancing o l readings h)))
    kept_step readings h sheet =
        let moved = keeps.advanced_at l.machine.drive readings h x inside in
        lived w w l _ _ g g.word
        (advanced_deed l.sampled (stance o x l.machine) (stance o x (advancing o l readings h)) _ _ refl moved.target (stays_at _ _ _ moved.position)
        (parts (turn o l.sampled) (turn_spares o keeps l.sampled) rowed l.sampled l.sampled (advancing o l readings h) g.size
        (λ mid s i. turn_deed o keeps x inside mid i l.sampled) nothing))
        (parts_size (turn o l.sampled) (turn_spares o keeps l.sampled) (advancing o l readings h))

    kept_park : Kept w (live l) park (parking l (each axes (clear o true) l.machine))
    kept_park =
        let f = clear o true in
        let t = took o f (clear_spares o keeps true) x inside axes l.machine (le_refl axes) inside in
        let i : x < length t.mid.posts = omega (arith, t.size, g.size) in
        let end = t.after ∙ clear_at o keeps x inside t.mid i true in
        let d = parts f (clear_spares o keeps true) clears l.sampled l.sampled l.machine g.size (λ mid s j. clear_deed o keeps x inside mid j l.sampled true) 0 in (
          done_live w l _ l.sampled _ g d,
          record {
            size = parts_size f (clear_spares o keeps true) l.machine ∙ g.size;
            none_waits = ap (λ v. waiting v.post) end;
            still = ap (λ v. v.target) end ∙ sym (ap (λ v. v.position) end);
          },
        )

  -- ---- the calls of a parked controller

  module _ (w : Option ℕ) (p : Parked S) (g : Good w (parked p)) where
    kept_arm : (b : ℕ) → Kept w (parked p) (arm b) (after (live (arming p b)) done)
    kept_arm b =
        let a : at x (arming p b).machine ≡ armed b (at x p.machine) = get_or-map (armed b) p.machine.posts x blank blank (omega (arith, g.size)) in (
          record { moves = (ap (λ q. q.queue) a, g.none_waits); frozen = λ c e h. (refl, refl, refl) },
          record {
            size = length-map p.machine.posts (armed b) ∙ g.size;
            word = refl;
            marked = ap (λ q. q.killed) a ∙ ap (λ q. hit q.kills b) (sym a);
            stands = λ k. g.still;
          },
        )

    -- With other settings, and other posts with the same queues.
    reset : (u : Setup) (ps : List Post) → length ps ≡ length p.machine.posts → (get_or ps x blank).queue ≡ (at x p.machine).queue →
        Goes w (parked p) quiet w (parked (record { machine = record { drive = p.machine.drive; posts = ps; output = p.machine.output }; setup = u; dropped = p.dropped }))
    reset u ps s e = (
      record { moves = λ i. record { queue = e i; target = o.target p.machine.drive x }; frozen = λ c q h. (refl, refl, refl) },
      record { size = s ∙ g.size; none_waits = ap (λ q. q.entries) e ∙ g.none_waits; still = g.still },
    )

    new_kills : (f : KillInputs → KillInputs) → Goes w (parked p) quiet w (parked (kills_set p f))
    new_kills f = reset p.setup _ (length-set p.machine.posts (index p.setup.axis) _) (set_queue p.machine.posts (index p.setup.axis) x _ refl)

    applied : (s : Setting) → Goes w (parked p) quiet w (parked (apply s p))
    applied (Sets.Select a) = reset _ p.machine.posts refl refl
    applied (Sets.UnitsOn f) = reset _ p.machine.posts refl refl
    applied Sets.UnitsOff = reset _ p.machine.posts refl refl
    applied (Sets.KillInput b l) = new_kills (λ k. with_kill k (contact_of (pos b)) l)
    applied Sets.NoKillInputs = new_kills (λ k. no_kills)

    kept_set : (r : Result Setting Unread) → Goes w (parked p) quiet w (setting_by p r).now
    kept_set (Ok s) = applied s
    kept_set (Err r) = unchanged w (parked p) g

  -- ---- every call

  kept : (w : Option ℕ) (c : Controller S) (k : Call) → Good w c → Kept w c k (call o c k)
  unfolding call
  kept w (parked p) (set_call text) g = kept_set w p g (read_setting text)
  kept w (parked p) (arm b) g = kept_arm w p g b
  kept w (parked p) (command port text sheet answer) g = unchanged w (parked p) g
  kept w (parked p) (sample b sheet) g = unchanged w (parked p) g
  kept w (parked p) (step readings h sheet) g = unchanged w (parked p) g
  kept w (parked p) park g = unchanged w (parked p) g
  kept w (live l) (set_call text) g = unchanged w (live l) g
  kept w (live l) (arm b) g = unchanged w (live l) g
  kept w (live l) (command port text sheet answer) g =
      refusing (Kept w (live l) (command port text sheet answer)) (eqb (length sheet) axes) Sheet l _ (unchanged w (live l) g)
      (refusing (Kept w (live l) (command port text sheet answer)) (leb 192 (length answer)) Answer l _ (unchanged w (live l) g) (heard w l g port text (reading l port text)))
  kept w (live l) (sample b sheet) g =
      refusing (Kept w (live l) (sample b sheet)) (eqb (length sheet) axes) Sheet l _ (unchanged w (live l) g) (kept_sample w l g b sheet)
  kept w (live l) (step readings h sheet) g =
      refusing (Kept w (live l) (step readings h sheet)) (eqb (length sheet) axes) Sheet l _ (unchanged w (live l) g)
      (refusing (Kept w (live l) (step readings h sheet)) (eqb (length readings) axes) Readings l _ (unchanged w (live l) g) (kept_step w l g readings h sheet))
  kept w (live l) park g = kept_park w l g

  follows : (ks : List Call) (w : Option ℕ) (c : Controller S) → Good w c → Follows o x w c (history o c ks)
  follows [] w c g = tt
  follows (k ∷ ks) w c g =
      let n = kept w c k g in
      (n.0, follows ks (sampled k (call o c k).outcome w) (call o c k).now n.1)

  -- ---- a new controller

  new_post : (s : S) → at x (machine_of (new o s)) ≡ blank
  unfolding new
  new_post s = get_or-replicate axes x blank blank inside

  new_good : (s : S) → Good None (new o s)
  unfolding new
  new_good s =
      let h = halts_below keeps s axes x inside (le_refl axes) in
      record {
        size = length-replicate axes blank;
        none_waits = ap waiting (new_post s);
        still = h.target ∙ sym h.position;
      }

  pub new_accounted : (s : S) (ks : List Call) → Account o x (new o s) (history o (new o s) ks)
  new_accounted s ks =
      account o x (new o s) (history o (new o s) ks) (follows ks None (new o s) (new_good s))
      (record { none_waits = ap waiting (new_post s); no_plan = ap (λ p. p.queue.plan) (new_post s) }) (ap (λ p. p.queue.count) (new_post s))
