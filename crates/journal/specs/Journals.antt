-- The journal of a list of calls. Assumes nothing.
use Rattle.std.specs.Prelude.{ℕ, ◌<◌, List, [], ◌∷◌, map}
use Rattle.drive.specs.Axes.{axes}
use Rattle.drive.specs.Drive.{Ops}
use Rattle.model.specs.Controller.{Controller, Call, Outcome, call, new}
use Rattle.model.specs.Account.{History, Account, history}

-- What each call tells, one after the other.
abbrev pub outcomes : {S : Type 0} → Ops S → Controller S → List Call → List Outcome
outcomes o c ks = map (λ m. m.outcome) (history o c ks)

-- The history that a journal tells of: the calls, what the journal says that each told, and the controller after each.
abbrev pub journaled : {S : Type 0} → Ops S → Controller S → List Call → List Outcome → History S
journaled o c [] ts = []
journaled o c (k ∷ ks) [] = []
journaled o c (k ∷ ks) (t ∷ ts) = record { call = k; outcome = t; now = (call o c k).now } ∷ journaled o (call o c k).now ks ts

-- A journal keeps the account, for each axis.
abbrev pub Kept : {S : Type 0} → Ops S → S → List Call → List Outcome → Type 0
Kept o s ks ts = (x : ℕ) → x < axes → Account o x (new o s) (journaled o (new o s) ks ts)
