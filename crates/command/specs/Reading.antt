-- What one text asks for. Assumes nothing.
use Rattle.std.specs.Prelude.{ℕ, Bool, cond, ◌&&◌, List, length, Ok, Err, Result, nat_le}
use Rattle.drive.specs.declared.axis.Axis.{Axis}
use Rattle.command.specs.declared.request.Port.{Port}
use Rattle.command.specs.declared.request.Port.TheVariants.{M, P}
use Rattle.command.specs.declared.request.Selection.{Selection}
use Rattle.command.specs.declared.request.Command.{Command}
use Rattle.command.specs.declared.request.Refusal.{Refusal}
use Rattle.command.specs.declared.request.Refusal.TheVariants.{Length}
use Rattle.command.specs.declared.request.Settings.{Settings}
use Rattle.command.specs.declared.request.Setting.{Setting}
use Rattle.command.specs.Fields.{then}
use Rattle.command.specs.Mount.{mount}
use Rattle.command.specs.Bench.{bench}
use Rattle.command.specs.Sets.{setting}

-- A text has from 1 to 160 bytes.
abbrev pub fits : List ℕ → Bool
fits text = nat_le 1 (length text) && nat_le (length text) 160

-- By the port, with port M's selection, port P's last axis and the settings of the axes. Port M leaves the last axis as it is.
abbrev pub on_port : Port → Selection → Axis → List Settings → List ℕ → Result Command Refusal
on_port M s last ts text = then (mount s ts text) (λ r. Ok (record { request = r; last = last }))
on_port P s last ts text = bench last text

-- What a text of a command asks for.
unfoldable pub read : Port → Selection → Axis → List Settings → List ℕ → Result Command Refusal
read port s last ts text = cond (fits text) (on_port port s last ts text) (Err Length)

-- What a text of Set asks for.
unfoldable pub read_setting : List ℕ → Result Setting Refusal
read_setting text = cond (fits text) (setting text) (Err Length)
