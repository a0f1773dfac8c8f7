-- How an axis stands, and that a step takes each axis by itself.
use Rattle.std.specs.Prelude.{◌≡◌, ℕ, ◌<◌, Bool, length, ℤ, slice_index_or}
use Rattle.drive.specs.Axes.{axes}
use Rattle.drive.specs.Drive.{Ops}
use Rattle.model.specs.Rows.{nothing}
use Rattle.model.specs.Machine.{Post, Machine, at, each, turn}

-- How an axis stands: its post, and what its drive tells of it.
pub record Stance : Type 0 where
  pub post : Post
  pub position : ℤ
  pub target : ℤ
  pub least : ℤ
  pub greatest : ℤ
  pub down : Bool

abbrev pub stance : {S : Type 0} → Ops S → ℕ → Machine S → Stance
stance o k m = record {
  post = at k m;
  position = o.position m.drive k;
  target = o.target m.drive k;
  least = o.least m.drive k;
  greatest = o.greatest m.drive k;
  down = o.down m.drive k;
}

-- A step does to each axis what the axis's own turn alone does to it, whatever the other axes do.
abbrev pub Alone : {S : Type 0} → Ops S → Type 0
Alone {S} o =
    (w x : ℕ) (m : Machine S) → x < axes → length m.posts ≡ axes →
    let all = each axes (turn o w) m in
    let own = turn o w x m in
    (slice_index_or all.tells x nothing ≡ own.tells) × (stance o x all.now ≡ stance o x own.now)

-- What a turn does to its axis is decided by the sampled word and by how the axis stands: on two machines, be it over two drives, where it
-- stands alike, it gets the same row and is left standing alike.
abbrev pub Decided : {S T : Type 0} → Ops S → Ops T → Type 0
Decided {S} {T} o p =
    (w x : ℕ) (m : Machine S) (n : Machine T) → x < axes → length m.posts ≡ axes → length n.posts ≡ axes →
    stance o x m ≡ stance p x n →
    ((turn o w x m).tells ≡ (turn p w x n).tells) × (stance o x (turn o w x m).now ≡ stance p x (turn p w x n).now)
