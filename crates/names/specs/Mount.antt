-- The names of port M.
use Rattle.std.specs.Prelude.{ℕ, List, [], ◌∷◌, ◌++◌, codes, refl}
use Rattle.names.specs.declared.mount.MountName.{MountName}
use Rattle.names.specs.declared.mount.MountName.TheVariants.{Ax, Ay, Az, At, Au, Av, Ar, As, Aa, Ma, Mr, Go, Bh, Bl, Sw, Bw, Kl, Ks, Fl, Rp, Rqc, HashEr}
use Rattle.names.specs.Tables.{Row, rows}
use Rattle.names.specs.Laws.{Apart, InOrder}
use Rattle.names.specs.Tested.{apart_by_test}

-- the row of each name in the table, counted from 0, and its bytes
abbrev pub spelling : MountName → ℕ × List ℕ
spelling Ax = (0, codes "AX")
spelling Ay = (1, codes "AY")
spelling Az = (2, codes "AZ")
spelling At = (3, codes "AT")
spelling Au = (4, codes "AU")
spelling Av = (5, codes "AV")
spelling Ar = (6, codes "AR")
spelling As = (7, codes "AS")
spelling Aa = (8, codes "AA")
spelling Ma = (9, codes "MA")
spelling Mr = (10, codes "MR")
spelling Go = (11, codes "GO")
spelling Bh = (12, codes "BH")
spelling Bl = (13, codes "BL")
spelling Sw = (14, codes "SW")
spelling Bw = (15, codes "BW")
spelling Kl = (16, codes "KL")
spelling Ks = (17, codes "KS")
spelling Fl = (18, codes "FL")
spelling Rp = (19, codes "RP")
spelling Rqc = (20, codes "RQC")
spelling HashEr = (21, codes "#ER")

abbrev pub index : MountName → ℕ
index n = (spelling n).0

abbrev pub letters : MountName → List ℕ
letters n = (spelling n).1

-- the names that select an axis, or all
abbrev pub selections : List (Row MountName)
selections = rows letters (Ax ∷ Ay ∷ Az ∷ At ∷ Au ∷ Av ∷ Ar ∷ As ∷ Aa ∷ [])

-- the names of queue entries
abbrev pub entries : List (Row MountName)
entries = rows letters (Ma ∷ Mr ∷ Go ∷ Bh ∷ Bl ∷ Sw ∷ Bw ∷ [])

-- the names that clear axes
abbrev pub clearings : List (Row MountName)
clearings = rows letters (Kl ∷ Ks ∷ Fl ∷ [])

-- the names that are answered
abbrev pub questions : List (Row MountName)
questions = rows letters (Rp ∷ Rqc ∷ HashEr ∷ [])

unfoldable pub mount_names : List (Row MountName)
mount_names = selections ++ entries ++ clearings ++ questions

pub mount_apart : Apart mount_names
unfolding mount_names
mount_apart = apart_by_test mount_names refl

pub mount_in_order : InOrder mount_names index letters
unfolding mount_names
mount_in_order = elim [ Ax ↦ refl | Ay ↦ refl | Az ↦ refl | At ↦ refl | Au ↦ refl | Av ↦ refl | Ar ↦ refl | As ↦ refl | Aa ↦ refl | Ma ↦ refl | Mr ↦ refl | Go ↦ refl | Bh ↦ refl | Bl ↦ refl | Sw ↦ refl | Bw ↦ refl | Kl ↦ refl | Ks ↦ refl | Fl ↦ refl | Rp ↦ refl | Rqc ↦ refl | HashEr ↦ refl ]
