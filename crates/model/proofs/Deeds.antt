-- One axis's part of a call, as a change of how the axis stands.
use Rattle.std.proofs.Common.{◌≡◌, ℕ, Bool, true, false, List, [], ◌∷◌, length, drop, ℤ, Some, None, Option, sym, refl, ap, ◌∙◌, subst, true≢false}
use Rattle.contacts.specs.Kills.{hit}
use Rattle.drive.specs.Range.{within, same}
use Rattle.queue.specs.declared.entry.Code.{Code}
use Rattle.queue.specs.declared.entry.Code.TheVariants.{Ma, Mr, Go, Bh, Bl, Sw, Bw, Ws}
use Rattle.queue.specs.declared.entry.Entry.{Entry}
use Rattle.queue.specs.Entries.{Aim, effect}
use Rattle.queue.specs.Views.{extended, taken, replanned}
use Rattle.model.specs.declared.row.Row.{Row}
use Rattle.model.specs.Rows as Rows
use Rattle.model.specs.Machine.{with_queue, marked, emptied, waiting, Next, stays, runs, begins, overreaches, unless, held, reached, going, heading, queued, serial}
use Rattle.model.specs.Account.{Event, quiet, accepts, executes, clears, stamp, rowed, accepted_in, executed_in}
use Rattle.model.specs.Stances.{Stance}
use Rattle.model.proofs.Moves.{Track, aim, bound, Moves}
use Rattle.model.proofs.Stances.{aimed}

abbrev pub course : Stance → Track
course v = record { queue = v.post.queue; target = v.target }

-- A killed axis is still.
abbrev pub Stands : Stance → Type 0
Stands v = v.post.killed ≡ true → v.target ≡ v.position

-- From `v` to `u` under the event `e`, where the sampled word was `w` and is now `w'`.
pub record Deed (w w' : ℕ) (v : Stance) (e : Event) (u : Stance) : Type 0 where
  pub moves : Moves (course v) e (course u)
  pub idle : v.post.killed ≡ true → (accepted_in e ≡ []) × (executed_in e ≡ [])
  pub position : Stands v → v.post.killed ≡ true → u.position ≡ v.position
  pub stands : Stands v → Stands u
  pub marks : v.post.killed ≡ hit v.post.kills w → u.post.killed ≡ hit u.post.kills w'

module _ (w : ℕ) (v : Stance) where
  -- Nothing happens, but it may be killed no longer.
  pub rests : (w' : ℕ) (b : Bool) → (Stands v → b ≡ true → v.target ≡ v.position) → (v.post.killed ≡ hit v.post.kills w → b ≡ hit v.post.kills w') →
      Deed w w' v quiet (aimed v (marked b v.post) v.target)
  rests w' b s k = record { moves = refl; idle = λ d. (refl, refl); position = λ t d. refl; stands = s; marks = k }

  pub nothing_done : Deed w w v quiet v
  nothing_done = rests w v.post.killed (λ t. t) (λ k. k)

  -- It is cleared, and may be killed.
  pub clearing : (w' : ℕ) (b : Bool) (g : ℤ) → (Stands v → b ≡ true → g ≡ v.position) → (v.post.killed ≡ hit v.post.kills w → b ≡ hit v.post.kills w') →
      Deed w w' v (clears (length (waiting v.post))) (aimed v (marked b (emptied v.post)) g)
  clearing w' b g s k = record { moves = (refl, refl); idle = λ d. (refl, refl); position = λ t d. refl; stands = s; marks = k }

  module _ (lives : v.post.killed ≡ false) where
    pub accepting : (es : List Entry) → Deed w w v (accepts es) (aimed v (with_queue v.post (extended v.post.queue es)) v.target)
    accepting es = record {
      moves = refl;
      idle = λ d. absurd (true≢false (sym d ∙ lives));
      position = λ t d. refl;
      stands = λ t. t;
      marks = λ k. k;
    }

    -- The head is executed, which leads to the plan `p` and the target `g`.
    pub executing : (e : Entry) (p : Option ℤ) (g : ℤ) → waiting v.post ≡ e ∷ drop 1 (waiting v.post) → effect (aim (course v)) e ≡ record { plan = p; target = g } →
        Deed w w v (executes (stamp (serial v.post.queue) e)) (aimed v (with_queue v.post (replanned (taken v.post.queue) p)) g)
    executing e p g h a = record {
      moves = record {
        head = e;
        others = drop 1 (waiting v.post);
        waited = h;
        stamped = refl;
        leaves = ap (bound (drop 1 (waiting v.post)) v.post.queue.count) (sym a);
      };
      idle = λ d. absurd (true≢false (sym d ∙ lives));
      position = λ t d. refl;
      stands = λ t d. absurd (true≢false (sym d ∙ lives));
      marks = λ k. k;
    }

-- ---- what a step finds

abbrev pub found : ℕ → Stance → Next
found w v = unless v.post.killed Rows.dead (queued (waiting v.post) (same v.position v.target) w v.post.queue.plan v.down (within v.least v.greatest))

-- What it leads to, and its row.
abbrev pub turned : Stance → Next → Stance
turned v (stays r) = v
turned v (runs e) = aimed v (with_queue v.post (replanned (taken v.post.queue) (effect (aim (course v)) e).plan)) v.target
turned v (begins e t) = aimed v (with_queue v.post (replanned (taken v.post.queue) None)) t
turned v overreaches = aimed v (emptied v.post) v.position

abbrev pub row : Stance → Next → Row
row v (stays r) = r
row v (runs e) = Rows.executed (serial v.post.queue) e
row v (begins e t) = Rows.executed (serial v.post.queue) e
row v overreaches = Rows.by_reach (length (waiting v.post))

-- What holds where it is found, of an axis killed or not, its entries, aim, being down and reach.
abbrev Finds : Bool → List Entry → Aim → Bool → (ℤ → Bool) → Next → Type 0
Finds k es a down in_reach (stays r) = rowed r ≡ quiet
Finds k es a down in_reach (runs e) = (k ≡ false) × (es ≡ e ∷ drop 1 es) × ((effect a e).target ≡ a.target)
Finds k es a down in_reach (begins e t) =
    (k ≡ false) × (es ≡ e ∷ drop 1 es) × (effect a e ≡ record { plan = None; target = t }) × (down ≡ false) × (in_reach t ≡ true)
Finds k es a down in_reach overreaches = Unit {0}

abbrev pub Found : Stance → Next → Type 0
Found v n = Finds v.post.killed (waiting v.post) (aim (course v)) v.down (within v.least v.greatest) n

module _ (es : List Entry) (g : ℤ) (in_reach : ℤ → Bool) where
  abbrev at_target : Option ℤ → Aim
  at_target p = record { plan = p; target = g }

  finds_reach : (r : Bool) (n t : ℤ) → in_reach t ≡ r →
      let e : Entry = record { code = Go; operand = n } in Finds false (e ∷ es) (at_target (Some t)) false in_reach (reached r e t)
  finds_reach true n t q = (refl, refl, refl, refl, q)
  finds_reach false n t q = tt

  finds_go : (n : ℤ) (p : Option ℤ) (down : Bool) →
      let e : Entry = record { code = Go; operand = n } in Finds false (e ∷ es) (at_target p) down in_reach (going p down in_reach e)
  finds_go n None down = (refl, refl, refl)
  finds_go n (Some t) true = refl
  finds_go n (Some t) false = finds_reach (in_reach t) n t refl

  finds_head : (h : Bool) (c : Code) (n : ℤ) (p : Option ℤ) (down : Bool) →
      let e : Entry = record { code = c; operand = n } in Finds false (e ∷ es) (at_target p) down in_reach (unless h Rows.awaiting (heading c p down in_reach e))
  finds_head true c n p down = refl
  finds_head false Ma n p down = (refl, refl, refl)
  finds_head false Mr n p down = (refl, refl, refl)
  finds_head false Go n p down = finds_go n p down
  finds_head false Bh n p down = (refl, refl, refl)
  finds_head false Bl n p down = (refl, refl, refl)
  finds_head false Sw n p down = (refl, refl, refl)
  finds_head false Bw n p down = (refl, refl, refl)
  finds_head false Ws n p down = (refl, refl, refl)

finds_queue : (k : Bool) (es : List Entry) (is_still : Bool) (w : ℕ) (a : Aim) (down : Bool) (in_reach : ℤ → Bool) →
    Finds k es a down in_reach (unless k Rows.dead (queued es is_still w a.plan down in_reach))
finds_queue true es is_still w a down in_reach = refl
finds_queue false [] is_still w a down in_reach = refl
finds_queue false (e ∷ es) false w a down in_reach = refl
finds_queue false (e ∷ es) true w a down in_reach = finds_head es a.target in_reach (held w e) e.code e.operand a.plan down

pub finds : (w : ℕ) (v : Stance) → Found v (found w v)
finds w v = finds_queue v.post.killed (waiting v.post) (same v.position v.target) w (aim (course v)) v.down (within v.least v.greatest)

pub turning : (w : ℕ) (v : Stance) (n : Next) → Found v n → Deed w w v (rowed (row v n)) (turned v n)
turning w v (stays r) f = subst (λ e. Deed w w v e v) (sym f) (nothing_done w v)
turning w v (runs e) f = executing w v f.0 e _ v.target f.1 (λ i. record { plan = (effect (aim (course v)) e).plan; target = f.2 i })
turning w v (begins e t) f = executing w v f.0 e None t f.1 f.2
turning w v overreaches f = clearing w v w v.post.killed v.position (λ s d. refl) (λ k. k)
