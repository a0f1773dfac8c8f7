-- What a text on port M asks for. Assumes nothing.
use Rattle.std.specs.Prelude.{ℕ, ◌-◌, true, false, List, [], length, pos, Ok, Err, Result}
use Rattle.drive.specs.declared.axis.Axis.TheVariants.{X, Y, Z, T, U, V, R, S}
use Rattle.drive.specs.Axes.{index}
use Rattle.names.specs.declared.mount.MountName.{MountName}
use Rattle.names.specs.declared.mount.MountName.TheVariants as N
use Rattle.names.specs.Tables.{named}
use Rattle.names.specs.Mount.{mount_names}
use Rattle.queue.specs.declared.entry.Code.TheVariants.{Ma, Mr, Go, Bh, Bl, Sw, Bw}
use Rattle.command.specs.declared.mount.Operand.{Operand}
use Rattle.command.specs.declared.mount.Operand.TheVariants.{Nothing, Amount, Bit, Amounts, GoList, KillList, Invalid}
use Rattle.command.specs.declared.request.Selection.{Selection}
use Rattle.command.specs.declared.request.Selection.TheVariants.{One, All}
use Rattle.command.specs.declared.request.Request.{Request}
use Rattle.command.specs.declared.request.Request.TheVariants.{Select, Clear, Positions, Places, ErrorRecord}
use Rattle.command.specs.declared.request.Refusal.{Refusal}
use Rattle.command.specs.declared.request.Refusal.TheVariants.{Name as BadName, Mode}
use Rattle.command.specs.declared.request.Settings.{Settings}
use Rattle.command.specs.Requests.{alone, bare, every, enters}
use Rattle.command.specs.Fields.{then, only}
use Rattle.command.specs.Operands.{units_of, pointed, measured, ranged, amount, listed}

-- The table of port M: what follows each name, with one axis selected and in AA.
abbrev pub follows : MountName → Selection → Operand
follows N.Ax s = Nothing (Select (One X))
follows N.Ay s = Nothing (Select (One Y))
follows N.Az s = Nothing (Select (One Z))
follows N.At s = Nothing (Select (One T))
follows N.Au s = Nothing (Select (One U))
follows N.Av s = Nothing (Select (One V))
follows N.Ar s = Nothing (Select (One R))
follows N.As s = Nothing (Select (One S))
follows N.Aa s = Nothing (Select All)
follows N.Ma (One a) = Amount Ma a
follows N.Ma All = Amounts Ma
follows N.Mr (One a) = Amount Mr a
follows N.Mr All = Amounts Mr
follows N.Go (One a) = Nothing (enters Go (bare a))
follows N.Go All = GoList
follows N.Bh (One a) = Bit Bh a
follows N.Bh All = Invalid
follows N.Bl (One a) = Bit Bl a
follows N.Bl All = Invalid
follows N.Sw (One a) = Bit Sw a
follows N.Sw All = Invalid
follows N.Bw (One a) = Bit Bw a
follows N.Bw All = Invalid
follows N.Kl s = Nothing (Clear every true)
follows N.Ks (One a) = Nothing (Clear (bare a) true)
follows N.Ks All = KillList
follows N.Fl (One a) = Nothing (Clear (bare a) false)
follows N.Fl All = Invalid
follows N.Rp s = Nothing (Positions s)
follows N.Rqc s = Nothing (Places s)
follows N.HashEr s = Nothing ErrorRecord

-- The request that an operand makes; ts are the settings of the axes.
abbrev pub taking : List Settings → Operand → ℕ → List ℕ → Result Request Refusal
taking ts (Nothing r) at bs = only r at bs
taking ts (Amount c a) at bs = then (amount (pointed ts (index a)) (measured (units_of ts (index a))) at bs) (λ z. Ok (enters c (alone a z)))
taking ts (Bit c a) at bs = then (amount false (ranged (pos 0) (pos 15)) at bs) (λ z. Ok (enters c (alone a z)))
taking ts (Amounts c) at bs = then (listed ts at bs) (λ os. Ok (enters c os))
taking ts GoList at bs = then (listed [] at bs) (λ os. Ok (enters Go os))
taking ts KillList at bs = then (listed [] at bs) (λ os. Ok (Clear os true))
taking ts Invalid at bs = Err Mode

abbrev pub after_name : Selection → List Settings → List ℕ → Result (MountName × List ℕ) ℕ → Result Request Refusal
after_name s ts text (Ok n) = taking ts (follows n.0 s) (length text - length n.1) n.1
after_name s ts text (Err p) = Err (BadName p)

-- What a text on port M asks for; its length is right.
abbrev pub mount : Selection → List Settings → List ℕ → Result Request Refusal
mount s ts text = after_name s ts text (named mount_names text)
