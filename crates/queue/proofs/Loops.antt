-- Steps made in place, one after another.
use Rattle.std.proofs.Common.{◌≡◌, ℕ, ◌+◌, ◌<◌, ◌≤◌, List, ◌++◌, length, get_or, take, drop, set, append_assoc, arith}
use Rattle.std.proofs.lemmas.List.{drop_more, drop-set-lt, take_more_set, drop_all, take_all, append-nil}
use Rattle.queue.specs.declared.history.Step.{Step}
use Rattle.queue.specs.Views.{View}
use Rattle.queue.specs.History.{told, after, history, final}

-- After `i` steps, of a queue that was `u` and is `v`: what is done, with what is left, is the whole.
abbrev pub Kept : View → List Step → View → List Step → ℕ → Type 0
Kept u start v steps i =
    (take i steps ++ history v (drop i steps) ≡ history u start) × (final v (drop i steps) ≡ final u start)

pub kept_more : (u : View) (start : List Step) (v w : View) (steps : List Step) (i : ℕ) (d r : Step) → i < length steps
    → r ≡ told v (get_or steps i d) → w ≡ after v (get_or steps i d) → Kept u start v steps i → Kept u start w (set steps i r) (i + 1)
kept_more u start v w steps i d r inside says does k =
    let here = drop_more steps i d inside in
    let left = drop-set-lt (i + 1) steps i r (omega arith) in
    (grind (arith, take_more_set, append_assoc), grind arith)

pub kept_all : (u : View) (start : List Step) (v : View) (steps : List Step) (i : ℕ) → length steps ≤ i
    → Kept u start v steps i → (steps ≡ history u start) × (v ≡ final u start)
kept_all u start v steps i past k =
    let left = drop_all i steps past in
    let all = take_all i steps past in
    (grind (arith, append-nil), grind arith)
