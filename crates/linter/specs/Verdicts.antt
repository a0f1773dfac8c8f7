-- What a text is: one that a name of port M leads, or refused.
use Rattle.std.specs.Prelude.{ℕ, cond, List, ◌++◌, length, Ok, Err, codes, decimal, Result, nat_lt}
use Rattle.names.specs.declared.MountName.{MountName}
use Rattle.names.specs.Tables.{named}
use Rattle.names.specs.Mount.{letters, mount_names}
use Rattle.linter.specs.declared.verdict.Refusal.{Refusal}
use Rattle.linter.specs.declared.verdict.Refusal.TheVariants.{Length, Unnamed}

-- the number of a refusal, and the place of the byte that it is about
abbrev pub number : Refusal → ℕ
number Length = 4
number (Unnamed place) = 5

abbrev pub place : Refusal → ℕ
place Length = 0
place (Unnamed p) = p

abbrev pub by_name : Result (MountName × List ℕ) ℕ → Result MountName Refusal
by_name (Ok x) = Ok x.0
by_name (Err p) = Err (Unnamed p)

-- a text has at most 160 bytes, and begins with a name
abbrev pub judged : List ℕ → Result MountName Refusal
judged text = cond (nat_lt 160 (length text)) (Err Length) (by_name (named mount_names text))

-- the name, or `! NUMBER PLACE`
abbrev pub told : Result MountName Refusal → List ℕ
told (Ok name) = letters name
told (Err r) = codes "! " ++ (decimal (number r) ++ (codes " " ++ decimal (place r)))
