-- The code's values as the model's. Assumes nothing.
use Rattle.std.specs.Prelude.{◌≡◌, ℕ, Bool, cond, List, ℤ, Ok, Err, Result, ◌==◌}
use Rattle.std.specs.Borrow.{MutBor}
use Rattle.contacts.specs.declared.kill.KillInputs.{KillInputs}
use Rattle.drive.specs.declared.health.Health.{Health}
use Rattle.drive.specs.declared.axis.Axis.{Axis}
use Rattle.drive.specs.Axes.{axes, index}
use Rattle.drive.specs.Drive.{Ops}
use Rattle.command.specs.declared.request.Request.{Request}
use Rattle.command.specs.Requests.{clears_on}
use Rattle.model.specs.declared.refusal.Refusal.{Refusal}
use Rattle.model.specs.declared.refusal.Refusal.TheVariants.{Sheet}
use Rattle.model.specs.declared.row.Row.{Row}
use Rattle.model.specs.Machine as M
use Rattle.parts.specs.declared.machine.Machine.{Machine}

-- With other kill inputs.
abbrev pub rekilled : M.Post → KillInputs → M.Post
rekilled p k = record { queue = p.queue; kills = k; killed = p.killed }

module _ {D S : Type 0} (state : D → S) where
  -- No `impl Model` for the machine: the type of what it would show names the drive's own ghost type, `S`.
  abbrev pub machine_view : Machine D → M.Machine S
  machine_view m = record { drive = state m.drive; posts = m.posts; output = m.output }

  -- The machine after a part of a call, and what the part told.
  abbrev pub part : {R : Type 0} → Machine D → R → M.Part S R
  part m r = record { now = machine_view m; tells = r }

  -- One axis's part, as `f` has it, is what each call of a closure does and tells; `calls` relates a machine, an axis and a place for
  -- what is told to the machine and the place after it.
  abbrev pub Does : {R : Type 0} → (MutBor (Machine D) → Axis → MutBor R → Unit {0} → MutBor (Machine D) → MutBor R → Type 0) → (ℕ → M.Machine S → M.Part S R) → Type 0
  Does {R} calls f =
      (before : MutBor (Machine D)) (axis : Axis) (place : MutBor R) (done : Unit {0}) (after : MutBor (Machine D)) (told : MutBor R) → calls before axis place done after told →
      part after.now told.now ≡ f (index axis) (machine_view before.now)

-- One axis's part of a request that clears.
unfoldable pub cleared_by : {S : Type 0} → Ops S → Request → Bool → ℕ → M.Machine S → M.Part S Row
cleared_by o r halt k m = M.clear_if o (clears_on r k) halt k m

-- Axis `k` with other kill inputs.
abbrev pub kills_put : {S : Type 0} → ℕ → M.Machine S → KillInputs → M.Machine S
kills_put k m kills = M.put k m m.drive (rekilled (M.at k m) kills)

-- The machine once its drive has advanced.
abbrev pub advanced : {S : Type 0} → Ops S → M.Machine S → List ℤ → Health → M.Machine S
advanced o m readings h = record { drive = o.advanced m.drive readings h; posts = m.posts; output = m.output }

-- A sheet of `n` rows is taken where there is one for each axis.
abbrev pub if_taken : {A : Type 0} → ℕ → A → A → A
if_taken n taken refused = cond (n == axes) taken refused

abbrev pub sheet_taken : ℕ → Result (Unit {0}) Refusal
sheet_taken n = if_taken n (Ok tt) (Err Sheet)
