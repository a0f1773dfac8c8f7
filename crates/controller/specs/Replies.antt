-- What a host sees of a call: what it gives back, and the lent sheet and answer block after it. Assumes nothing.
use Rattle.std.specs.Prelude.{◌≡◌, ℕ, List, ◌++◌, length, drop, Ok, Err, Result}
use Rattle.model.specs.declared.row.Row.{Row}
use Rattle.model.specs.declared.refusal.Refusal.{Refusal}
use Rattle.model.specs.Controller.{Controller, After, Outcome, untaken, refused, done, told, dropped_all}

-- The refusal, or what is made of the answer.
abbrev replied : {A : Type 0} → (List ℕ → A) → A → Outcome → Result A Refusal
replied answer none untaken = Ok none
replied answer none (refused r) = Err r
replied answer none done = Ok none
replied answer none (told rows bytes) = Ok (answer bytes)
replied answer none (dropped_all ns) = Ok none

-- The length of the answer, 0 for none.
abbrev pub answered : Outcome → Result ℕ Refusal
answered t = replied length 0 t

-- Taken or refused.
abbrev pub taken : Outcome → Result (Unit {0}) Refusal
taken t = replied (λ bytes. tt) tt t

-- The sheet has the rows that were told, and is as it was where none were.
abbrev pub sheet_after : Outcome → List Row → List Row
sheet_after untaken sheet = sheet
sheet_after (refused r) sheet = sheet
sheet_after done sheet = sheet
sheet_after (told rows bytes) sheet = rows
sheet_after (dropped_all ns) sheet = sheet

-- The answer, and the rest of the block as it was.
abbrev pub block_after : Outcome → List ℕ → List ℕ
block_after untaken block = block
block_after (refused r) block = block
block_after done block = block
block_after (told rows bytes) block = bytes ++ drop (length bytes) block
block_after (dropped_all ns) block = block

-- A call that tells rows and no answer did what the defined controller does: the controller after it, what was given back, and the
-- sheet after it by the one before it.
pub record Took {S : Type 0} (a : After S) (c : Controller S) (reply : Result (Unit {0}) Refusal) (sheet sheet' : List Row) : Type 0 where
  pub now : c ≡ a.now
  pub says : reply ≡ taken a.outcome
  pub rows : sheet' ≡ sheet_after a.outcome sheet

-- A command did what the defined controller does: the controller after it, what was given back, and the sheet and the block
-- after it by those before it.
pub record Did {S : Type 0} (a : After S) (c : Controller S) (reply : Result ℕ Refusal) (sheet sheet' : List Row) (block block' : List ℕ) : Type 0 where
  pub now : c ≡ a.now
  pub says : reply ≡ answered a.outcome
  pub rows : sheet' ≡ sheet_after a.outcome sheet
  pub answer : block' ≡ block_after a.outcome block
