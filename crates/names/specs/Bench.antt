-- The names of port P.
use Rattle.std.specs.Prelude.{ℕ, List, [], ◌∷◌, codes, refl}
use Rattle.names.specs.declared.bench.BenchName.{BenchName}
use Rattle.names.specs.declared.bench.BenchName.TheVariants.{Pr, Pa, St, Ws, Tp}
use Rattle.names.specs.Tables.{Row, rows}
use Rattle.names.specs.Laws.{Apart, InOrder}
use Rattle.names.specs.Tested.{apart_by_test}

-- the row of each name in the table, counted from 0, and its bytes
abbrev pub spelling : BenchName → ℕ × List ℕ
spelling Pr = (0, codes "PR")
spelling Pa = (1, codes "PA")
spelling St = (2, codes "ST")
spelling Ws = (3, codes "WS")
spelling Tp = (4, codes "TP")

abbrev pub index : BenchName → ℕ
index n = (spelling n).0

abbrev pub letters : BenchName → List ℕ
letters n = (spelling n).1

unfoldable pub bench_names : List (Row BenchName)
bench_names = rows letters (Pr ∷ Pa ∷ St ∷ Ws ∷ Tp ∷ [])

pub bench_apart : Apart bench_names
unfolding bench_names
bench_apart = apart_by_test bench_names refl

pub bench_in_order : InOrder bench_names index letters
unfolding bench_names
bench_in_order = elim [ Pr ↦ refl | Pa ↦ refl | St ↦ refl | Ws ↦ refl | Tp ↦ refl ]
