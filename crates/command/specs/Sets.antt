-- What a text to Set asks for. Assumes nothing.
use Rattle.std.specs.Prelude.{ℕ, ◌+◌, ◌-◌, true, false, cond, ◌||◌, List, [], ◌∷◌, length, drop, pos, Some, None, Ok, Err, Option, Result, ◌==◌, int_le, unsigned_abs}
use Rattle.text.specs.declared.number.Number.{Number}
use Rattle.text.specs.Decimals.{Fixed, decimal_of}
use Rattle.drive.specs.declared.axis.Axis.TheVariants.{X, Y, Z, T, U, V, R, S}
use Rattle.names.specs.declared.setting.SettingName.{SettingName}
use Rattle.names.specs.declared.setting.SettingName.TheVariants as N
use Rattle.names.specs.Tables.{named}
use Rattle.names.specs.Setting.{setting_names}
use Rattle.command.specs.declared.fields.Field.{Field}
use Rattle.command.specs.declared.request.Refusal.{Refusal}
use Rattle.command.specs.declared.request.Refusal.TheVariants.{Name as BadName, Form}
use Rattle.command.specs.declared.request.Setting.{Setting}
use Rattle.command.specs.declared.request.Setting.TheVariants.{Select, UnitsOn, UnitsOff, KillInput, NoKillInputs}
use Rattle.command.specs.Fields.{then, only, leading, single}
use Rattle.command.specs.Operands.{amount, ranged, kept}

abbrev pub positive : Option Fixed → Option Fixed
positive None = None
positive (Some d) = cond (int_le (pos 1) d.value) (Some d) None

-- A factor, its point left out, is from 1 on.
abbrev pub factor : Number → Option Fixed
factor n = positive (decimal_of n)

-- What follows UU: a factor, which may have a point.
abbrev pub scaling : ℕ → List ℕ → Result Setting Refusal
scaling at bs = then (amount true factor at bs) (λ d. Ok (UnitsOn d))

-- After the comma of IOK,C.
abbrev pub removing : ℕ → List ℕ → Result Setting Refusal
removing at [] = Err (Form at)
removing at (b ∷ bs) = cond (b == 67 || b == 99) (only NoKillInputs (at + 1) bs) (Err (Form at))

-- The level: a comma and a whole number.
abbrev pub level : ℕ → List ℕ → Result Field Refusal
level at [] = Err (Form at)
level at (b ∷ bs) = cond (b == 44) (single false (at + 1) bs) (Err (Form at))

-- A contact from 0 to 15, and a level of 0 or 1.
abbrev pub judged : Field → Field → Result Setting Refusal
judged contact level =
    then (kept contact.at (ranged (pos 0) (pos 15) contact.number)) (λ b. then (kept level.at (ranged (pos 0) (pos 1) level.number)) (λ l. Ok (KillInput (unsigned_abs b) (int_le (pos 1) l))))

-- A contact and its level: the form of both first, then the ranges.
abbrev pub contact : ℕ → List ℕ → Result Setting Refusal
contact at bs =
    then (leading false at bs) (λ f. then (level (at + f.number.end) (drop f.number.end bs)) (judged f))

-- What follows IOK.
abbrev pub killing : ℕ → List ℕ → Result Setting Refusal
killing at [] = Err (Form at)
killing at (b ∷ bs) = cond (b == 44) (removing (at + 1) bs) (contact at (b ∷ bs))

-- The table of Set: what follows each name.
abbrev pub changing : SettingName → ℕ → List ℕ → Result Setting Refusal
changing N.Ax at bs = only (Select X) at bs
changing N.Ay at bs = only (Select Y) at bs
changing N.Az at bs = only (Select Z) at bs
changing N.At at bs = only (Select T) at bs
changing N.Au at bs = only (Select U) at bs
changing N.Av at bs = only (Select V) at bs
changing N.Ar at bs = only (Select R) at bs
changing N.As at bs = only (Select S) at bs
changing N.Uu at bs = scaling at bs
changing N.Uf at bs = only UnitsOff at bs
changing N.Iok at bs = killing at bs

abbrev pub after_name : List ℕ → Result (SettingName × List ℕ) ℕ → Result Setting Refusal
after_name text (Ok n) = changing n.0 (length text - length n.1) n.1
after_name text (Err p) = Err (BadName p)

-- What a text to Set asks for; its length is right.
abbrev pub setting : List ℕ → Result Setting Refusal
setting text = after_name text (named setting_names text)
