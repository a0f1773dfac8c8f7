-- The lines that are read.
use Rattle.std.specs.Prelude.{ℕ, cond, List, [], ◌∷◌, Some, None, codes, Option, ◌==◌}
use Rattle.std.specs.Option.{option_map}
use Rattle.command.specs.declared.request.Port.{Port}
use Rattle.command.specs.declared.request.Port.TheVariants.{M, P}
use Rattle.listing.specs.declared.input.Line.{Line}
use Rattle.listing.specs.declared.input.Line.TheVariants.{Command, Sample, Step}
use Rattle.listing.specs.Hex.{digits}

pub data Input : Type 0 where
  command : Port → (text : List ℕ) → Input
  sample : (word : ℕ) → Input
  step : Input

abbrev pub seen : Line → Input
seen (Command port text) = command port text.now
seen (Sample word) = sample word
seen Step = step

abbrev pub inputs : Option Line → Option Input
inputs o = option_map seen o

-- What stands after the bytes ns at the front of a line; None where they do not stand there.
abbrev pub after : List ℕ → List ℕ → Option (List ℕ)
after [] bs = Some bs
after (n ∷ ns) [] = None
after (n ∷ ns) (b ∷ bs) = cond (b == n) (after ns bs) None

-- The first row whose bytes lead a line says what is made of the rest.
abbrev pub by_front : {A : Type 0} → List (List ℕ × (List ℕ → Option A)) → List ℕ → Option A
by_front [] line = None
by_front (r ∷ rows) line = elim (after r.0 line) [ None ↦ by_front rows line | Some rest ↦ r.1 rest ]

-- Nothing more stands in the line.
abbrev pub alone : {A : Type 0} → A → List ℕ → Option A
alone x [] = Some x
alone x (b ∷ bs) = None

-- `M TEXT`, `P TEXT`, `S HHHH` and `T`.
abbrev pub input : List ℕ → Option Input
input line =
    by_front (
    (codes "M ", λ text. Some (command M text))
    ∷ (codes "P ", λ text. Some (command P text))
    ∷ (codes "S ", λ word. option_map sample (digits 4 word))
    ∷ (codes "T", alone step)
    ∷ []
    )
    line
