-- Which texts have the right form, in the words of the rule book: nothing of how a text is read stands here.
use Rattle.std.specs.Prelude.{◌≡◌, ℕ, ◌+◌, ◌-◌, ◌*◌, ◌≤◌, Bool, true, false, ◌⊎◌, List, [], ◌∷◌, ◌++◌, map, length, codes}
use Rattle.std.specs.List.{AllByRecursion}
use Rattle.drive.specs.Axes.{axes}

-- The byte n of a name: a letter in either case, any other byte as it is.
abbrev pub Same : ℕ → ℕ → Type 0
Same n b = (b ≡ n) ⊎ ((65 ≤ n) × (n ≤ 90) × (b ≡ n + 32))

-- The bytes of a name.
abbrev pub Spelled : List ℕ → List ℕ → Type 0
Spelled [] [] = Unit {0}
Spelled [] (b ∷ bs) = ⊥
Spelled (n ∷ ns) [] = ⊥
Spelled (n ∷ ns) (b ∷ bs) = Same n b × Spelled ns bs

abbrev pub Digit : ℕ → Type 0
Digit b = (48 ≤ b) × (b ≤ 57)

abbrev pub Digits : List ℕ → Type 0
Digits bs = AllByRecursion Digit bs

pub data Sign : List ℕ → Type 0 where
  unsigned : Sign []
  plus : Sign (43 ∷ [])
  minus : Sign (45 ∷ [])

-- A sign or none, then 1 to 10 digits in all, with one point between digits where it is allowed.
pub data Number : Bool → List ℕ → Type 0 where
  whole : (p : Bool) (s a : List ℕ) → Sign s → Digits a → 1 ≤ length a → length a ≤ 10 → Number p (s ++ a)
  pointed : (s a b : List ℕ) → Sign s → Digits a → Digits b → 1 ≤ length a → 1 ≤ length b → length a + length b ≤ 10 → Number true (s ++ (a ++ (46 ∷ b)))

-- Numbers with commas between them, a field for each axis at the most: `points` says of each whether a point is allowed.
-- A field may be empty; `named` says whether any is not.
pub data Fields : (points : List Bool) (named : Bool) → List ℕ → Type 0 where
  last_empty : (p : Bool) (ps : List Bool) → Fields (p ∷ ps) false []
  last : (p : Bool) (ps : List Bool) (v : List ℕ) → Number p v → Fields (p ∷ ps) true v
  empty : (p : Bool) (ps : List Bool) (n : Bool) (w : List ℕ) → Fields ps n w → Fields (p ∷ ps) n (44 ∷ w)
  field : (p : Bool) (ps : List Bool) (n : Bool) (v w : List ℕ) → Number p v → Fields ps n w → Fields (p ∷ ps) true (v ++ (44 ∷ w))

-- What may follow a name.
pub data Shape : Type 0 where
  -- nothing
  bare : Shape
  -- a number, with a point or not
  one : (point : Bool) → Shape
  -- a whole number, or nothing
  optional : Shape
  -- a list that names at least one axis
  listed : (points : List Bool) → Shape
  -- a contact and its level, or that there is no contact any more
  kill : Shape
  -- no text: the name is not valid
  invalid : Shape
  -- any text
  anything : Shape

pub data Shaped : Shape → List ℕ → Type 0 where
  nothing : Shaped bare []
  number : (p : Bool) (v : List ℕ) → Number p v → Shaped (one p) v
  absent : Shaped optional []
  present : (v : List ℕ) → Number false v → Shaped optional v
  fields : (ps : List Bool) (w : List ℕ) → Fields ps true w → Shaped (listed ps) w
  input : (v w : List ℕ) → Number false v → Number false w → Shaped kill (v ++ (44 ∷ w))
  no_inputs : (c : ℕ) → Same 67 c → Shaped kill (44 ∷ c ∷ [])
  whatever : (v : List ℕ) → Shaped anything v

-- A name and what may follow it.
abbrev pub Rule : Type 0
Rule = Shape × List ℕ

abbrev rules : Shape → List (List ℕ) → List Rule
rules s names = map (λ n. (s, n)) names

-- A text of one of the rules.
pub data Ruled : List Rule → List ℕ → Type 0 where
  here : (s : Shape) (n : List ℕ) (rs : List Rule) (w v : List ℕ) → Spelled n w → Shaped s v → Ruled ((s, n) ∷ rs) (w ++ v)
  there : (r : Rule) (rs : List Rule) (t : List ℕ) → Ruled rs t → Ruled (r ∷ rs) t

-- Some name of the rules, and any text after it.
abbrev pub Named : List Rule → List ℕ → Type 0
Named rs = Ruled (map (λ r. (anything, r.1)) rs)

abbrev selections : List (List ℕ)
selections = codes "AX" ∷ codes "AY" ∷ codes "AZ" ∷ codes "AT" ∷ codes "AU" ∷ codes "AV" ∷ codes "AR" ∷ codes "AS" ∷ []

-- Port M with one axis selected, whose numbers have points or not.
abbrev pub one_axis : Bool → List Rule
one_axis point =
    rules bare selections
    ++ rules bare (codes "AA" ∷ [])
    ++ rules (one point) (codes "MA" ∷ codes "MR" ∷ [])
    ++ rules bare (codes "GO" ∷ [])
    ++ rules (one false) (codes "BH" ∷ codes "BL" ∷ codes "SW" ∷ codes "BW" ∷ [])
    ++ rules bare (codes "KL" ∷ codes "KS" ∷ codes "FL" ∷ [])
    ++ rules bare (codes "RP" ∷ codes "RQC" ∷ codes "#ER" ∷ [])

-- Port M in AA; `points` says of each axis whether its numbers have points.
abbrev pub all_axes : List Bool → List Rule
all_axes points =
    let wholes : Shape = listed (map (λ _. false) points) in
    rules bare selections
    ++ rules bare (codes "AA" ∷ [])
    ++ rules (listed points) (codes "MA" ∷ codes "MR" ∷ [])
    ++ rules wholes (codes "GO" ∷ [])
    ++ rules invalid (codes "BH" ∷ codes "BL" ∷ codes "SW" ∷ codes "BW" ∷ [])
    ++ rules bare (codes "KL" ∷ [])
    ++ rules wholes (codes "KS" ∷ [])
    ++ rules invalid (codes "FL" ∷ [])
    ++ rules bare (codes "RP" ∷ codes "RQC" ∷ codes "#ER" ∷ [])

-- Port P, after the axis number.
abbrev pub on_bench : List Rule
on_bench = rules optional (codes "PR" ∷ codes "PA" ∷ []) ++ rules bare (codes "ST" ∷ codes "WS" ∷ codes "TP" ∷ [])

-- Set.
abbrev pub in_set : List Rule
in_set =
    rules bare selections
    ++ rules (one true) (codes "UU" ∷ [])
    ++ rules bare (codes "UF" ∷ [])
    ++ rules kill (codes "IOK" ∷ [])

-- An axis number of port P: absent, or one or two digits, from 1 to the number of axes.
abbrev pub AxisNumber : List ℕ → Type 0
AxisNumber [] = Unit {0}
AxisNumber (b ∷ []) = Digit b × (1 ≤ b - 48) × (b - 48 ≤ axes)
AxisNumber (b ∷ c ∷ []) = Digit b × Digit c × (1 ≤ (b - 48) * 10 + (c - 48)) × ((b - 48) * 10 + (c - 48) ≤ axes)
AxisNumber (b ∷ c ∷ d ∷ bs) = ⊥

-- An axis number, and a text of `rest` after it.
pub data Addressed (rest : List ℕ → Type 0) : List ℕ → Type 0 where
  addressed : (n v : List ℕ) → AxisNumber n → rest v → Addressed rest (n ++ v)

abbrev pub RightOne : Bool → List ℕ → Type 0
RightOne point = Ruled (one_axis point)

abbrev pub RightAll : List Bool → List ℕ → Type 0
RightAll points = Ruled (all_axes points)

abbrev pub RightBench : List ℕ → Type 0
RightBench = Addressed (Ruled on_bench)

abbrev pub RightSet : List ℕ → Type 0
RightSet = Ruled in_set
