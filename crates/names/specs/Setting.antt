-- The names of Set.
use Rattle.std.specs.Prelude.{ℕ, List, [], ◌∷◌, ◌++◌, codes, refl}
use Rattle.names.specs.declared.setting.SettingName.{SettingName}
use Rattle.names.specs.declared.setting.SettingName.TheVariants.{Ax, Ay, Az, At, Au, Av, Ar, As, Uu, Uf, Iok}
use Rattle.names.specs.Tables.{Row, rows}
use Rattle.names.specs.Laws.{Apart, InOrder}
use Rattle.names.specs.Tested.{apart_by_test}

-- the row of each name in the table, counted from 0, and its bytes
abbrev pub spelling : SettingName → ℕ × List ℕ
spelling Ax = (0, codes "AX")
spelling Ay = (1, codes "AY")
spelling Az = (2, codes "AZ")
spelling At = (3, codes "AT")
spelling Au = (4, codes "AU")
spelling Av = (5, codes "AV")
spelling Ar = (6, codes "AR")
spelling As = (7, codes "AS")
spelling Uu = (8, codes "UU")
spelling Uf = (9, codes "UF")
spelling Iok = (10, codes "IOK")

abbrev pub index : SettingName → ℕ
index n = (spelling n).0

abbrev pub letters : SettingName → List ℕ
letters n = (spelling n).1

-- the names that select an axis
abbrev pub selections : List (Row SettingName)
selections = rows letters (Ax ∷ Ay ∷ Az ∷ At ∷ Au ∷ Av ∷ Ar ∷ As ∷ [])

-- the names that change the axis
abbrev pub changes : List (Row SettingName)
changes = rows letters (Uu ∷ Uf ∷ Iok ∷ [])

unfoldable pub setting_names : List (Row SettingName)
setting_names = selections ++ changes

pub setting_apart : Apart setting_names
unfolding setting_names
setting_apart = apart_by_test setting_names refl

pub setting_in_order : InOrder setting_names index letters
unfolding setting_names
setting_in_order = elim [ Ax ↦ refl | Ay ↦ refl | Az ↦ refl | At ↦ refl | Au ↦ refl | Av ↦ refl | Ar ↦ refl | As ↦ refl | Uu ↦ refl | Uf ↦ refl | Iok ↦ refl ]
