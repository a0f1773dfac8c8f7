-- What the reader comes to next is what the block has next, and all of it together is the block. Assumes nothing.
use Rattle.std.proofs.Common.{◌≡◌, ℕ, zero, suc, ◌+◌, ◌-◌, ◌<◌, ◌≤◌, true, false, List, [], ◌∷◌, length, get_or, take, drop, sym, refl, ap, ◌∙◌, subst, ⊎_elim, arith, length-drop}
use mathlib.Core.Bool.{beq}
use Rattle.std.specs.List.{AllByRecursion}
use Rattle.std.proofs.lemmas.List.{drop_all, drop-drop, take_all, length-take-le, take_rest, get_or-drop, get_or_past}
use Rattle.std.proofs.lemmas.List.Sums.{prefix_len-le-length, prefix_len-drop_yes}
use Rattle.std.proofs.lemmas.Bool.{cases_eq, cases_lt, eq-eqb, ne_eqb, true≢false}
use Rattle.text.specs.Blocks.{separates, run, Cut, command, unfinished, end, start, span, cut, cut_at, after, onto, asked, pieces, Onward, Gap, Text, Found, Parted}
use Rattle.text.proofs.Runs.{run_all, run_ends}

module _ (block : List ℕ) where
  -- a text of n bytes at s, after a gap
  found_by : (from s n : ℕ) → from ≤ s → Gap (take (s - from) (drop from block)) → n ≡ run false (drop s block) → s ≤ length block → (n ≡ 0 → Gap (drop from block)) → Found block from (cut block s n)
  found_by from s n h gap e inside none =
      let all : AllByRecursion (λ b. separates b ≡ false) (take n (drop s block)) = subst (λ k. AllByRecursion (λ b. separates b ≡ false) (take k (drop s block))) (sym e) (run_all false (drop s block)) in
      let within : n ≤ length (drop s block) = omega (arith, prefix_len-le-length (λ b. beq (separates b) false) (drop s block)) in
      let long : length (take n (drop s block)) ≡ n = length-take-le n (drop s block) within in
      let room = length-drop s block in
      ⊎_elim
      (λ (z : n ≡ 0). rw (eq-eqb n 0 z) (none z))
      (λ (some : n ≡ 0 → ⊥).
      let text : Text (take n (drop s block)) = (omega arith, all) in
      rw (ne_eqb n 0 some)
      (⊎_elim
      (λ (last : s + n ≡ length block). rw (eq-eqb (s + n) (length block) last) (h, gap, text, sym (take_all n (drop s block) (omega arith))))
      (λ (more : s + n ≡ length block → ⊥).
      let stop : separates (get_or block (s + length (take n (drop s block))) 0) ≡ true = rw (long, e, ← get_or-drop s block (run false (drop s block)) 0) (run_ends false (drop s block) (omega arith)) in
      rw (ne_eqb (s + n) (length block) more) (h, gap, text, ap (λ k. take k (drop s block)) long, stop))
      (cases_eq (s + n) (length block))))
      (cases_eq n 0)

  -- where no text follows a gap, the block ends with the gap
  only_gap : (bs : List ℕ) → run false (drop (run true bs) bs) ≡ 0 → Gap bs
  only_gap bs e =
      ⊎_elim
      (λ (more : run true bs < length bs).
      let t : beq (separates (get_or bs (run true bs) 0)) false ≡ true = rw (run_ends true bs more) in
      absurd (omega (arith, prefix_len-drop_yes (λ b. beq (separates b) false) bs (run true bs) 0 more t)))
      (λ (all : length bs ≤ run true bs). subst Gap (take_all (run true bs) bs all) (run_all true bs))
      (cases_lt (run true bs) (length bs))

  found : (from : ℕ) → from ≤ length block → Found block from (cut_at block from)
  found from inside =
      let bs = drop from block in
      let g : start block from - from ≡ run true bs = omega arith in
      found_by from (start block from) (span block from) (omega arith) (rw g (run_all true bs)) refl (omega (arith, prefix_len-le-length (λ b. beq (separates b) true) bs, length-drop from block))
      (λ e. only_gap bs (ap (run false) (drop-drop (run true bs) from block) ∙ e))

  -- the bytes that are left are fewer after each text
  onward_by : (from : ℕ) (c : Cut) → Found block from c → Onward c from (after (length block) c) (length block)
  onward_by from (command w at) f =
      ⊎_elim
      (λ (l : at + length w < length block). (omega (arith, f.0), omega arith))
      (λ (l : length block ≤ at + length w). absurd (true≢false (sym f.4 ∙ ap separates (get_or_past block (at + length w) 0 l))))
      (cases_lt (at + length w) (length block))
  onward_by from (unfinished w at) f = (omega (arith, f.0, f.2.0, ap length f.3, length-drop at block), omega arith)
  onward_by from end f = refl

  onward : (from : ℕ) → from ≤ length block → Onward (cut_at block from) from (after (length block) (cut_at block from)) (length block)
  onward from inside = onward_by from (cut_at block from) (found from inside)

  -- past the end there is nothing
  ended : (n from : ℕ) → length block ≤ from → asked n block from ≡ []
  unfolding asked
  ended zero from h = refl
  ended (suc n) from h =
      let e : cut_at block from ≡ end = rw (drop_all from block h, drop_all (from + 0) block (omega arith)) in
      ap (λ c. onto c (asked n block (after (length block) c))) e

  same_after : (from to : ℕ) (c : Cut) (xs ys : List Cut) → Onward c from to (length block) → (from < to → to ≤ length block → xs ≡ ys) → onto c xs ≡ onto c ys
  same_after from to (command w at) xs ys o e = ap (λ cs. command w at ∷ cs) (e o.0 o.1)
  same_after from to (unfinished w at) xs ys o e = ap (λ cs. unfinished w at ∷ cs) (e o.0 o.1)
  same_after from to end xs ys o e = refl

  -- asking more often than there are bytes gives no more
  enough : (n m from : ℕ) → from ≤ length block → length block ≤ from + n → length block ≤ from + m → asked n block from ≡ asked m block from
  unfolding asked
  enough zero m from inside h k = sym (ended m from (omega arith))
  enough (suc n) zero from inside h k = ended (suc n) from (omega arith)
  enough (suc n) (suc m) from inside h k =
      let c = cut_at block from in
      let to = after (length block) c in
      same_after from to c (asked n block to) (asked m block to) (onward from inside) (λ l i. enough n m to i (omega arith) (omega arith))

  left : (from : ℕ) → from ≤ length block → pieces block from ≡ onto (cut_at block from) (pieces block (after (length block) (cut_at block from)))
  unfolding asked
  left from inside = enough (length block) (suc (length block)) from inside (omega arith) (omega arith)

  parted_onto : (from : ℕ) (c : Cut) (cs : List Cut) → Found block from c → (from < after (length block) c → after (length block) c ≤ length block → Parted block (after (length block) c) cs) → (length block ≤ after (length block) c → cs ≡ []) → Parted block from (onto c cs)
  parted_onto from (command w at) cs f rest none = let o = onward_by from (command w at) f in (f, rest o.0 o.1)
  parted_onto from (unfinished w at) cs f rest none = (f, none (omega arith))
  parted_onto from end cs f rest none = f

  parted_in : (n from : ℕ) → from ≤ length block → length block ≤ from + n → Parted block from (asked n block from)
  unfolding asked
  parted_in zero from inside h = rw (drop_all from block (omega arith)) tt
  parted_in (suc n) from inside h =
      let c = cut_at block from in
      let to = after (length block) c in
      parted_onto from c (asked n block to) (found from inside) (λ l i. parted_in n to i (omega arith)) (ended n to)

  pub parted : (from : ℕ) → from ≤ length block → Parted block from (pieces block from)
  parted from inside = parted_in (length block) from inside (omega arith)

-- what `next` finds from `from` on: a gap of g bytes, and n bytes after it
module _ (block : List ℕ) (from g n : ℕ) (hg : g ≡ run true (take (length block - from) (drop from block))) (hn : n ≡ run false (take (length block - (from + g)) (drop (from + g) block))) where
  pub is_cut : cut block (from + g) n ≡ cut_at block from
  is_cut =
      let s : from + g ≡ start block from = ap (λ k. from + k) (hg ∙ ap (run true) (take_rest block from)) in
      λ i. cut block (s i) ((hn ∙ ap (run false) (take_rest block (from + g)) ∙ ap (λ k. run false (drop k block)) s) i)

stays_inside : (c : Cut) (from to long : ℕ) → Onward c from to long → to ≤ long
stays_inside (command w at) from to long o = o.1
stays_inside (unfinished w at) from to long o = o.1
stays_inside end from to long o = omega arith

module _ (block : List ℕ) (from : ℕ) (inside : from ≤ length block) (c : Cut) (is : c ≡ cut_at block from) where
  pub stays : after (length block) c ≤ length block
  stays = subst (λ k. after (length block) k ≤ length block) (sym is) (stays_inside (cut_at block from) from _ _ (onward block from inside))

  pub goes_on : (to : ℕ) → to ≡ after (length block) c → Onward c from to (length block)
  goes_on to e = subst (λ t. Onward c from t (length block)) (sym e) (subst (λ k. Onward k from (after (length block) k) (length block)) (sym is) (onward block from inside))

  pub leaves : (to : ℕ) → to ≡ after (length block) c → pieces block from ≡ onto c (pieces block to)
  leaves to e = left block from inside ∙ (λ i. onto (sym is i) (pieces block (after (length block) (sym is i)))) ∙ ap (λ t. onto c (pieces block t)) (sym e)
