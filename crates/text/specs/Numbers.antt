-- What the bytes at the front of a text say of a number. Assumes nothing.
use Rattle.std.specs.Prelude.{ℕ, ◌+◌, ◌-◌, ◌*◌, ◌^◌, ◌<◌, ◌≤◌, Bool, false, cond, ◌&&◌, ◌||◌, List, [], ◌∷◌, drop, ℤ, pos, neg_ℤ, Some, None, Ok, Err, Option, Result, ◌==◌, nat_le, nat_lt, unsigned_abs}
use Rattle.text.specs.declared.number.Number.{Number}
use Rattle.text.specs.declared.number.Scan.{Scan}

abbrev pub digit : ℕ → Bool
digit b = nat_le 48 b && nat_le b 57

-- how many bytes the sign takes
abbrev pub signs : List ℕ → ℕ
signs [] = 0
signs (b ∷ bs) = cond (b == 43 || b == 45) 1 0

abbrev pub negative : List ℕ → Bool
negative [] = false
negative (b ∷ bs) = b == 45

abbrev pub signed : Bool → ℕ → ℤ
signed minus n = cond minus (neg_ℤ (pos n)) (pos n)

-- no digit yet, at an offset
abbrev pub start : ℕ → Scan
start at = record { end = at; digits = 0; value = 0; whole = 0 }

-- a number with one digit more
abbrev pub longer : Scan → ℕ → Scan
longer s b = record { end = s.end + 1; digits = s.digits + 1; value = s.value * 10 + (b - 48); whole = s.whole }

-- a number with a point after its digits
abbrev pub pointed : Scan → Scan
pointed s = record { end = s.end + 1; digits = s.digits; value = s.value; whole = s.digits }

-- a number with one byte more: a digit while there are fewer than ten, and between digits one point where points are allowed
abbrev pub step : Bool → Scan → ℕ → Option Scan
step point s b =
    cond (nat_le 10 s.digits) None (cond (digit b) (Some (longer s b)) (cond (b == 46 && (point && (s.whole == 0 && nat_lt 0 s.digits))) (Some (pointed s)) None))

-- as far as the bytes go on with it
abbrev pub scanned : Bool → Scan → List ℕ → Scan
scanned point s [] = s
scanned point s (b ∷ bs) = elim (step point s b) [ None ↦ s | Some t ↦ scanned point t bs ]

-- how many digits stand after the point
abbrev pub decimals : Scan → ℕ
decimals s = cond (s.whole == 0) 0 (s.digits - s.whole)

-- a number has a digit before its point and, with a point, one after it; otherwise a digit is missing where it ends
abbrev pub finished : Bool → Scan → Result Number ℕ
finished minus s =
    cond (s.digits == s.whole) (Err s.end) (Ok (record { value = signed minus s.value; places = decimals s; end = s.end }))

-- the number at the front of a text, or the place of the first byte that fits none
unfoldable pub reads : Bool → List ℕ → Result Number ℕ
reads point bs = finished (negative bs) (scanned point (start (signs bs)) (drop (signs bs) bs))

-- what is so of a number as far as it has been read
pub record Sound (s : Scan) : Type 0 where
  pub few : s.digits ≤ 10
  pub small : s.value < 10 ^ s.digits
  pub split : s.whole ≤ s.digits
  pub past : s.digits ≤ s.end

-- a number ends past its start and not past the text; the place of a refusal is in the text or at its end
abbrev pub Bounded : ℕ → Result Number ℕ → Type 0
Bounded long (Ok n) = (0 < n.end) × (n.end ≤ long) × (n.places ≤ 9) × (unsigned_abs n.value < 10 ^ 10)
Bounded long (Err place) = place ≤ long
