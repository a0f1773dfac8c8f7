-- What a setting asks for, in words. Assumes nothing.
use Rattle.std.specs.Prelude.{ℕ, zero, suc, ◌/◌, ◌%◌, Bool, cond, List, ◌++◌, codes, decimal, ◌==◌, unsigned_abs}
use Rattle.text.specs.Decimals.{Fixed}
use Rattle.drive.specs.declared.axis.Axis.{Axis}
use Rattle.command.specs.declared.request.Setting.{Setting}
use Rattle.command.specs.declared.request.Setting.TheVariants.{Select, UnitsOn, UnitsOff, KillInput, NoKillInputs}
use Rattle.explainer.specs.Words.{axis_word}

-- digits with a point before the last `places` of them
abbrev pub with_point : ℕ → ℕ → List ℕ
with_point zero digits = decimal digits ++ codes "."
with_point (suc places) digits = with_point places (digits / 10) ++ decimal (digits % 10)

-- a factor: its digits, with their point where it stood; it is above 0, so it has no sign
abbrev pub factor_words : Fixed → List ℕ
factor_words d = cond (d.places == 0) (decimal (unsigned_abs d.value)) (with_point d.places (unsigned_abs d.value))

abbrev pub kill_words : ℕ → Bool → List ℕ
kill_words bit level = codes "kill input " ++ (decimal bit ++ (codes " at level " ++ decimal (cond level 1 0)))

-- what is set of an axis
abbrev pub set_words : Axis → List ℕ → List ℕ
set_words a what = codes "set " ++ (axis_word a ++ (codes " " ++ what))

-- what Set is asked for while it has this axis
abbrev pub change_words : Axis → Setting → List ℕ
change_words a (Select b) = codes "select " ++ axis_word b
change_words a (UnitsOn d) = set_words a (codes "units " ++ factor_words d)
change_words a UnitsOff = set_words a (codes "units off")
change_words a (KillInput bit level) = set_words a (kill_words bit level)
change_words a NoKillInputs = set_words a (codes "no kill inputs")
