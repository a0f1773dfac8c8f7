-- A ring's places in the order that starts at the head, and what a write or a step of the head does to them.
use Rattle.std.proofs.Common.{◌≡◌, ℕ, zero, suc, ◌+◌, ◌-◌, ◌<◌, ◌≤◌, List, [], ◌∷◌, ◌++◌, length, get_or, take, drop, set, sym, ap, ◌∙◌, append_assoc, arith}
use lib.Seq.{take-set-lt}
use Rattle.std.proofs.lemmas.List.{length-drop, length-take-le, length-append, drop-set-add, drop-set-lt, take-set-le, set-append_left, set-append_right, take_more_set, take-append-drop, drop_more, drop-drop, drop-take, drop-append-le, drop_all, take-append-le, take-take, append-nil}
use Rattle.queue.specs.Ring.{held}

abbrev turned : {X : Type 0} → List X → ℕ → List X
turned slots head = drop head slots ++ take head slots

module _ {X : Type 0} (slots : List X) (head : ℕ) (inside : head < length slots) where
  length-turned : length (turned slots head) ≡ length slots
  length-turned = simp (length-append, length-drop) (omega (arith, length-take-le head slots (omega arith)))

  pub length-held : (len : ℕ) → len ≤ length slots → length (held slots head len) ≡ len
  length-held len few = length-take-le len (turned slots head) (omega (arith, length-turned))

  -- Whatever the write does to the places, if it is a write at `len` from the head on.
  added : (after : List X) (len : ℕ) (item : X) → len < length slots → turned after head ≡ set (turned slots head) len item
      → held after head (len + 1) ≡ held slots head len ++ (item ∷ [])
  added after len item few e = ap (take (len + 1)) e ∙ take_more_set (turned slots head) len item (omega (arith, length-turned))

  pub added_straight : (len : ℕ) (item : X) → len < length slots - head
      → held (set slots (head + len) item) head (len + 1) ≡ held slots head len ++ (item ∷ [])
  added_straight len item few =
      added _ len item (omega arith)
      (rw (drop-set-add head slots len item, take-set-le head slots (head + len) item (omega arith))
      (sym (set-append_left (drop head slots) (take head slots) len item (omega (arith, length-drop head slots)))))

  pub added_past_end : (len : ℕ) (item : X) → len < length slots → length slots - head ≤ len
      → held (set slots (len - (length slots - head)) item) head (len + 1) ≡ held slots head len ++ (item ∷ [])
  added_past_end len item few past =
      let at = len - (length slots - head) in
      added _ len item few
      (rw (drop-set-lt head slots at item (omega arith), take-set-lt head slots at item (omega arith))
      (sym (set-append_right (drop head slots) (take head slots) (length slots - head) len item (length-drop head slots) past)))

  behind : List X
  behind = drop (head + 1) slots ++ take head slots

  -- The items behind the first.
  rest : (len : ℕ) → 0 < len → drop 1 (held slots head len) ≡ take (len - 1) behind
  unfolding behind
  rest len some =
      let one : len ≡ 1 + (len - 1) = omega arith in
      ap (λ n. drop 1 (held slots head n)) one
      ∙ drop-take 1 (len - 1) (turned slots head)
      ∙ ap (take (len - 1)) (drop-append-le 1 (drop head slots) (take head slots) (omega (arith, length-drop head slots)) ∙ ap (λ l. l ++ take head slots) (drop-drop 1 head slots))

  pub first : (len : ℕ) (d : X) → 0 < len → held slots head len ≡ get_or slots head d ∷ drop 1 (held slots head len)
  first zero d some = absurd (omega arith)
  first (suc n) d some = rw (drop_more slots head d inside)

  pub rest_straight : (len : ℕ) → 0 < len → len ≤ length slots → head + 1 < length slots → held slots (head + 1) (len - 1) ≡ drop 1 (held slots head len)
  unfolding behind
  rest_straight len some few h =
      let more = take-append-drop head (take (head + 1) slots) in
      let front = take-take head (head + 1) slots (omega arith) in
      let size : len - 1 ≤ length behind = simp (length-append, length-drop) (omega (arith, length-take-le head slots (omega arith))) in
      ap (λ l. take (len - 1) (drop (head + 1) slots ++ l)) (sym more ∙ ap (λ l. l ++ drop head (take (head + 1) slots)) front)
      ∙ ap (take (len - 1)) (sym (append_assoc (drop (head + 1) slots) (take head slots) _))
      ∙ take-append-le (len - 1) behind _ size
      ∙ sym (rest len some)

  pub rest_past_end : (len : ℕ) → 0 < len → len ≤ length slots → length slots ≤ head + 1 → held slots 0 (len - 1) ≡ drop 1 (held slots head len)
  unfolding behind
  rest_past_end len some few h =
      rw (rest len some, drop_all (head + 1) slots h, append-nil) (sym (take-take (len - 1) head slots (omega arith)))
