-- How an axis stands after another axis, or it itself, was written.
use Rattle.std.proofs.Common.{◌≡◌, ℕ, ◌<◌, ◌≢◌, length, set, ℤ, refl, length-set, get_or-set_other, get_or-set_same}
use Rattle.drive.specs.Axes.{axes}
use Rattle.drive.specs.Drive.{Ops}
use Rattle.drive.specs.Laws.{Aimed, Kept}
use Rattle.model.specs.Machine.{Post, Machine, blank, put}
use Rattle.model.specs.Stances.{Stance, stance}

-- With this post and this target.
abbrev pub aimed : Stance → Post → ℤ → Stance
aimed v p g = record { post = p; position = v.position; target = g; least = v.least; greatest = v.greatest; down = v.down }

module _ {S : Type 0} (o : Ops S) where
  pub written_at : (k : ℕ) (m : Machine S) (s : S) (p : Post) (g : ℤ) → k < length m.posts → Aimed o m.drive s k g → stance o k (put k m s p) ≡ aimed (stance o k m) p g
  written_at k m s p g h a = λ i. record {
    post = get_or-set_same m.posts k p blank h i;
    position = a.position i;
    target = a.target i;
    least = a.least i;
    greatest = a.greatest i;
    down = a.down i;
  }

  -- What axis `k`'s part of a call leaves as it was, from `m` to `n`.
  pub record Spares (k : ℕ) (m n : Machine S) : Type 0 where
    pub size : length n.posts ≡ length m.posts
    pub others : (x : ℕ) → x < axes → x ≢ k → stance o x n ≡ stance o x m

  pub spares_all : (k : ℕ) (m : Machine S) → Spares k m m
  spares_all k m = record { size = refl; others = λ x h n. refl }

  pub written_spares : (k : ℕ) (m : Machine S) (s : S) (p : Post) (out : ℕ) → ((x : ℕ) → x < axes → x ≢ k → Kept o m.drive s x) →
      Spares k m (record { drive = s; posts = set m.posts k p; output = out })
  written_spares k m s p out kept = record {
    size = length-set m.posts k p;
    others = λ x h n i. let a = kept x h n in record {
      post = get_or-set_other m.posts k x p blank n i;
      position = a.position i;
      target = a.target i;
      least = a.least i;
      greatest = a.greatest i;
      down = a.down i;
    };
  }
