-- What a text on port P asks for. Assumes nothing.
use Rattle.std.specs.Prelude.{ℕ, zero, suc, ◌+◌, ◌-◌, ◌*◌, true, false, cond, List, [], ◌∷◌, length, drop, pos, negsuc, Some, None, Ok, Err, Option, Result, slice_index}
use Rattle.std.specs.Option.{option_map, ok_or}
use Rattle.text.specs.Numbers.{digit}
use Rattle.drive.specs.declared.axis.Axis.{Axis}
use Rattle.drive.specs.Axes.{axis_at}
use Rattle.names.specs.declared.bench.BenchName.{BenchName}
use Rattle.names.specs.declared.bench.BenchName.TheVariants as N
use Rattle.names.specs.Tables.{named}
use Rattle.names.specs.Bench.{bench_names}
use Rattle.queue.specs.declared.entry.Code.{Code}
use Rattle.queue.specs.declared.entry.Code.TheVariants.{Ma, Mr, Ws}
use Rattle.command.specs.declared.bench.Address.{Address}
use Rattle.command.specs.declared.request.Selection.TheVariants.{One}
use Rattle.command.specs.declared.request.Request.{Request}
use Rattle.command.specs.declared.request.Request.TheVariants.{Place, Clear, Positions}
use Rattle.command.specs.declared.request.Command.{Command}
use Rattle.command.specs.declared.request.Refusal.{Refusal}
use Rattle.command.specs.declared.request.Refusal.TheVariants.{Name as BadName}
use Rattle.command.specs.Requests.{alone, bare, enters}
use Rattle.command.specs.Fields.{then, only}
use Rattle.command.specs.Operands.{ranged, amount}

-- The digit at index `k`, if one stands there.
abbrev pub digit_at : List ℕ → ℕ → Option ℕ
digit_at text k = cond (digit (slice_index text k)) (Some (slice_index text k - 48)) None

-- The axis of a number, counted from 1.
abbrev pub numbered : ℕ → Option Axis
numbered zero = None
numbered (suc i) = axis_at i

abbrev pub addressed : ℕ → ℕ → Option Address
addressed width n = option_map (λ a. record { axis = a; width = width }) (numbered n)

-- The axis by the first three digits: the last axis where no digit leads, and none where more than two do.
abbrev pub by_digits : Axis → Option ℕ → Option ℕ → Option ℕ → Option Address
by_digits last None e f = Some (record { axis = last; width = 0 })
by_digits last (Some d) None f = addressed 1 d
by_digits last (Some d) (Some e) None = addressed 2 (d * 10 + e)
by_digits last (Some d) (Some e) (Some f) = None

-- The axis that the leading digits name, and how many they are.
abbrev pub address : Axis → List ℕ → Option Address
address last text = by_digits last (digit_at text 0) (digit_at text 1) (digit_at text 2)

-- PR and PA: a whole number of counts up to 1,000,000,000 in size, or nothing for 0. The move is placed, and then GO.
abbrev pub moving : Code → Axis → ℕ → List ℕ → Result Request Refusal
moving c a at [] = Ok (Place c (bare a) true)
moving c a at (b ∷ bs) =
    then (amount false (ranged (negsuc 999999999) (pos 1000000000)) at (b ∷ bs)) (λ z. Ok (Place c (alone a z) true))

-- The table of port P: what follows each name.
abbrev pub asked : BenchName → Axis → ℕ → List ℕ → Result Request Refusal
asked N.Pr a at bs = moving Mr a at bs
asked N.Pa a at bs = moving Ma a at bs
asked N.St a at bs = only (Clear (bare a) true) at bs
asked N.Ws a at bs = only (enters Ws (bare a)) at bs
asked N.Tp a at bs = only (Positions (One a)) at bs

abbrev pub after_name : List ℕ → Address → Result (BenchName × List ℕ) ℕ → Result Command Refusal
after_name text g (Ok n) =
    then (asked n.0 g.axis (length text - length n.1) n.1) (λ r. Ok (record { request = r; last = g.axis }))
after_name text g (Err p) = Err (BadName (g.width + p))

abbrev pub to_address : List ℕ → Address → Result Command Refusal
to_address text g = after_name text g (named bench_names (drop g.width text))

-- What a text on port P asks for; its length is right. The leading digits are judged before the name.
abbrev pub bench : Axis → List ℕ → Result Command Refusal
bench last text = then (ok_or (address last text) (BadName 0)) (to_address text)
