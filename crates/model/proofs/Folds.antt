-- All axes' parts of a call: each axis has its own part, and the others leave it alone.
use Rattle.std.proofs.Common.{◌≡◌, ℕ, zero, suc, ◌<◌, ◌≤◌, ◌≢◌, [], ◌∷◌, length, get_or, sym, refl, ap, ◌∙◌, ⊎_elim, not-suc-le-zero, arith, length-append}
use lib.ListN.{get_or-append}
use lib.Seq.{get_or_at}
use Rattle.std.proofs.lemmas.Bool.{cases_eq}
use Rattle.drive.specs.Axes.{axes}
use Rattle.drive.specs.Drive.{Ops}
use Rattle.model.specs.Machine.{Machine, Part, each}
use Rattle.model.specs.Stances.{stance}
use Rattle.model.proofs.Stances.{Spares}

length-tells : {S R : Type 0} (n : ℕ) (f : ℕ → Machine S → Part S R) (m : Machine S) → length (each n f m).tells ≡ n
unfolding each
length-tells zero f m = refl
length-tells (suc n) f m = simp (length-append, length-tells n f m) (omega arith)

-- Axis `x` had its own part at `mid`, where it stood as at the start, and was left as that part left it.
pub record Took {S R : Type 0} (o : Ops S) (x n : ℕ) (f : ℕ → Machine S → Part S R) (m : Machine S) : Type 0 where
  pub mid : Machine S
  pub size : length mid.posts ≡ length m.posts
  pub before : stance o x mid ≡ stance o x m
  pub after : stance o x (each n f m).now ≡ stance o x (f x mid).now
  pub tells : (d : R) → get_or (each n f m).tells x d ≡ (f x mid).tells

module _ {S R : Type 0} (o : Ops S) (f : ℕ → Machine S → Part S R) (spares : (k : ℕ) (m : Machine S) → k < axes → Spares o k m (f k m).now) where
  pub each_size : (n : ℕ) (m : Machine S) → n ≤ axes → length (each n f m).now.posts ≡ length m.posts
  unfolding each
  each_size zero m h = refl
  each_size (suc n) m h = (spares n (each n f m).now h).size ∙ each_size n m (omega arith)

  module _ (x : ℕ) (inside : x < axes) where
    earlier : (n : ℕ) (m : Machine S) → n ≤ x → stance o x (each n f m).now ≡ stance o x m
    unfolding each
    earlier zero m h = refl
    earlier (suc n) m h = (spares n (each n f m).now (omega arith)).others x inside (omega arith) ∙ earlier n m (omega arith)

    own : (n : ℕ) (m : Machine S) → x ≡ n → Took o x (suc n) f m
    unfolding each
    own n m e = record {
      mid = (each n f m).now;
      size = each_size n m (omega arith);
      before = earlier n m (omega arith);
      after = ap (λ k. stance o x (f k (each n f m).now).now) (sym e);
      tells = λ d. get_or_at (each n f m).tells (f n (each n f m).now).tells [] d x (length-tells n f m ∙ sym e) ∙ ap (λ k. (f k (each n f m).now).tells) (sym e);
    }

    later : (n : ℕ) (m : Machine S) → n < axes → x ≢ n → x < n → Took o x n f m → Took o x (suc n) f m
    unfolding each
    later n m b ne h t = record {
      mid = t.mid;
      size = t.size;
      before = t.before;
      after = (spares n (each n f m).now b).others x inside ne ∙ t.after;
      tells = λ d. get_or-append (each n f m).tells ((f n (each n f m).now).tells ∷ []) d x (rw length-tells h) ∙ t.tells d;
    }

    pub took : (n : ℕ) (m : Machine S) → n ≤ axes → x < n → Took o x n f m
    took zero m b h = absurd (not-suc-le-zero h)
    took (suc n) m b h = ⊎_elim (own n m) (λ ne. later n m b ne (omega arith) (took n m (omega arith) (omega arith))) (cases_eq x n)
