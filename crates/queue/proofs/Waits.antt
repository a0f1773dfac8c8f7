-- Codes paired with their arguments, and how the two rings stand to what waits.
use Rattle.std.proofs.Common.{◌≡◌, ℕ, ◌+◌, ◌-◌, Bool, true, false, cond, ◌&&◌, List, [], ◌∷◌, ◌++◌, map, length, get_or, drop, ℤ, pos, Some, None, Option, slice_get, unwrap_or, sym, refl, ap, ap₂, ◌∙◌, arith}
use Rattle.std.proofs.lemmas.List.{length-map, length-append, length-drop, map-append}
use Rattle.std.proofs.lemmas.Int.{ints}
use Rattle.std.proofs.lemmas.Bool.Decides.{nat_tests}
use Rattle.queue.specs.declared.entry.Code.{Code}
use Rattle.queue.specs.declared.entry.Entry.{Entry}
use Rattle.queue.specs.declared.entry.Batch.{Batch}
use Rattle.queue.specs.declared.axis.Head.{Head}
use Rattle.queue.specs.Entries.{settled, listed, takes, taking, argument_count, in_range, InRange, all_in_range}
use Rattle.queue.specs.Views.{View, paired, seen, extended, Roomy, lacks_commands, lacks_arguments, lacks_count, head_of, taken}
use Rattle.queue.specs.Sound.{Sound, Tied}

codes_paired : (cs : List Code) (zs : List ℤ) → map (λ e. e.code) (paired cs zs) ≡ cs
codes_paired [] zs = refl
codes_paired (c ∷ cs) zs = ap (λ l. c ∷ l) (codes_paired cs _)

-- One code more that takes no argument, and one that does, with its argument.
pub paired_plain : (cs : List Code) (zs : List ℤ) (c : Code) → takes c ≡ false
    → paired (cs ++ c ∷ []) zs ≡ paired cs zs ++ record { code = c; operand = pos 0 } ∷ []
paired_plain [] zs c plain = rw plain
paired_plain (d ∷ cs) zs c plain = ap (λ l. record { code = d; operand = cond (takes d) (get_or zs 0 (pos 0)) (pos 0) } ∷ l) (paired_plain cs _ c plain)

pub paired_more : (cs : List Code) (zs : List ℤ) (c : Code) (a : ℤ) → takes c ≡ true → length zs ≡ taking cs
    → paired (cs ++ c ∷ []) (zs ++ a ∷ []) ≡ paired cs zs ++ record { code = c; operand = a } ∷ []
paired_more [] [] c a more few = rw more
paired_more [] (z ∷ zs) c a more few = absurd (omega arith)
paired_more (d ∷ cs) zs c a more few = by (takes d) zs few (λ ys. paired_more cs ys c a more)
  where
    by : (t : Bool) (ys : List ℤ) → length ys ≡ cond t 1 0 + taking cs
        → ((xs : List ℤ) → length xs ≡ taking cs → paired (cs ++ c ∷ []) (xs ++ a ∷ []) ≡ paired cs xs ++ record { code = c; operand = a } ∷ [])
        → record { code = d; operand = cond t (get_or (ys ++ a ∷ []) 0 (pos 0)) (pos 0) } ∷ paired (cs ++ c ∷ []) (cond t (drop 1 (ys ++ a ∷ [])) (ys ++ a ∷ []))
        ≡ record { code = d; operand = cond t (get_or ys 0 (pos 0)) (pos 0) } ∷ (paired cs (cond t (drop 1 ys) ys) ++ record { code = c; operand = a } ∷ [])
    by true [] few again = absurd (omega arith)
    by true (y ∷ ys) few again = ap (λ l. record { code = d; operand = y } ∷ l) (again ys (omega arith))
    by false ys few again = ap (λ l. record { code = d; operand = pos 0 } ∷ l) (again ys (omega arith))

-- How many entries wait, and how many arguments.
pub length-paired : (cs : List Code) (zs : List ℤ) → length (paired cs zs) ≡ length cs
length-paired cs zs = sym (length-map (paired cs zs) (λ e. e.code)) ∙ ap length (codes_paired cs zs)

pub arguments_paired : (cs : List Code) (zs : List ℤ) → argument_count (paired cs zs) ≡ taking cs
arguments_paired cs zs = ap taking (codes_paired cs zs)

pub taking-append : (cs ds : List Code) → taking (cs ++ ds) ≡ taking cs + taking ds
taking-append [] ds = omega arith
taking-append (c ∷ cs) ds = let e = taking-append cs ds in omega arith

pub all_in_range-append : (ns ms : List ℤ) → all_in_range (ns ++ ms) ≡ (all_in_range ns && all_in_range ms)
all_in_range-append [] ms = refl
all_in_range-append (n ∷ ns) ms = let e = all_in_range-append ns ms in grind arith

settled_twice : (t : Bool) (z : ℤ) → cond t (cond t z (pos 0)) (pos 0) ≡ cond t z (pos 0)
settled_twice true z = refl
settled_twice false z = refl

settled_again : (e : Entry) → map (λ f. (settled f).operand) (settled e ∷ []) ≡ map (λ f. f.operand) (settled e ∷ [])
settled_again e = ap (λ n. n ∷ []) (settled_twice (takes e.code) e.operand)

-- More entries, as they wait.
pub Sound-extended : (v : View) (es : List Entry) → Sound v → Roomy v es
    → map (λ e. (settled e).operand) es ≡ map (λ e. e.operand) es → Sound (extended v es)
Sound-extended v es s r wait =
    record {
      few_entries = simp length-append r.command_room;
      few_arguments = simp (map-append, taking-append) r.argument_room;
      in_place = simp (map-append, all_in_range-append) (let a = s.in_place in let b = r.in_place in grind arith);
      settled_operands = simp map-append (ap₂ (λ ms ns. ms ++ ns) s.settled_operands wait);
      waiting_counted = simp length-append (let a = s.waiting_counted in omega arith);
      count_bounded = r.count_room;
    }

pub Roomy-listed : (v : View) (b : Batch) → lacks_commands v b ≡ false → lacks_arguments v b ≡ false → lacks_count v b ≡ false → Roomy v (listed b)
Roomy-listed v b commands arguments count =
    record {
      command_room = grind (arith, nat_tests);
      argument_room = grind (arith, nat_tests);
      in_place = grind (arith, nat_tests);
      count_room = grind (arith, nat_tests);
    }

-- Room for some entries, then for the others.
pub Roomy-append : (v : View) (es fs : List Entry) → Roomy v (es ++ fs) → Roomy v es × Roomy (extended v es) fs
Roomy-append v es fs r =
    let commands = simp length-append at r.command_room in
    let arguments = simp (map-append, taking-append) at r.argument_room in
    let in_place = simp (map-append, all_in_range-append) at r.in_place in
    let count = simp length-append at r.count_room in (
      record { command_room = omega arith; argument_room = omega arith; in_place = grind arith; count_room = omega arith },
      record {
        command_room = simp length-append (omega arith);
        argument_room = simp (map-append, taking-append) (omega arith);
        in_place = grind arith;
        count_room = omega arith;
      },
    )

pub Sound-taken : (v : View) → Sound v → Sound (taken v)
Sound-taken v s = by v.entries s
  where
    by : (es : List Entry) → Sound (record { entries = es; plan = v.plan; count = v.count })
        → Sound (record { entries = drop 1 es; plan = v.plan; count = v.count })
    by [] t = t
    by (e ∷ es) t =
        let all = t.in_place in
        record {
          few_entries = omega (arith, t.few_entries);
          few_arguments = omega (arith, t.few_arguments);
          in_place = grind arith;
          settled_operands = ap (drop 1) t.settled_operands;
          waiting_counted = omega (arith, t.waiting_counted);
          count_bounded = t.count_bounded;
        }

-- One entry more.
pub added_plain : (cs : List Code) (zs : List ℤ) (p : Option ℤ) (n : ℕ) (e : Entry) → takes e.code ≡ false → Tied cs zs p n
    → Roomy (seen cs zs p n) (settled e ∷ [])
    → (seen (cs ++ e.code ∷ []) zs p (n + 1) ≡ extended (seen cs zs p n) (settled e ∷ [])) × Tied (cs ++ e.code ∷ []) zs p (n + 1)
added_plain cs zs p n e plain t r =
    let is : seen (cs ++ e.code ∷ []) zs p (n + 1) ≡ extended (seen cs zs p n) (settled e ∷ []) = rw (paired_plain cs zs e.code plain, plain) in
    let one_each = t.one_each in
    (is, record { one_each = grind (arith, taking-append); sound = rw is (Sound-extended _ _ t.sound r (settled_again e)) })

pub added_more : (cs : List Code) (zs : List ℤ) (p : Option ℤ) (n : ℕ) (e : Entry) → takes e.code ≡ true → Tied cs zs p n
    → Roomy (seen cs zs p n) (settled e ∷ [])
    → (seen (cs ++ e.code ∷ []) (zs ++ e.operand ∷ []) p (n + 1) ≡ extended (seen cs zs p n) (settled e ∷ []))
    × Tied (cs ++ e.code ∷ []) (zs ++ e.operand ∷ []) p (n + 1)
added_more cs zs p n e more t r =
    let is : seen (cs ++ e.code ∷ []) (zs ++ e.operand ∷ []) p (n + 1) ≡ extended (seen cs zs p n) (settled e ∷ [])
    = rw (paired_more cs zs e.code e.operand more t.one_each, more) in
    let one_each = t.one_each in
    (is, record { one_each = grind (arith, taking-append, length-append); sound = rw is (Sound-extended _ _ t.sound r (settled_again e)) })

-- The first entry gone, and with it its argument, if its code takes one.
argument_gone : (t : Bool) (zs : List ℤ) (n : ℕ) → length zs ≡ cond t 1 0 + n → length (cond t (drop 1 zs) zs) ≡ n
argument_gone true zs n long = simp length-drop (omega arith)
argument_gone false zs n long = omega arith

pub Tied-past : (cs ds : List Code) (zs ys : List ℤ) (p : Option ℤ) (n : ℕ) (v : View) (h : Head) → ds ≡ drop 1 cs
    → ys ≡ cond (takes h.entry.code) (drop 1 zs) zs → seen cs zs p n ≡ v → Some h ≡ head_of v → Tied cs zs p n → Tied ds ys p n
Tied-past cs ds zs ys p n v h cs-is zs-is v-is h-is t = rw (cs-is, zs-is) (by cs (h-is ∙ ap head_of (sym v-is)) t)
  where
    by : (cs : List Code) → Some h ≡ head_of (seen cs zs p n) → Tied cs zs p n
        → Tied (drop 1 cs) (cond (takes h.entry.code) (drop 1 zs) zs) p n
    by [] is t = cc
    by (c ∷ cs) is t =
        let same = ap (λ o. (unwrap_or o h).entry.code) is in
        rw same (record { one_each = argument_gone (takes c) zs _ t.one_each; sound = Sound-taken _ t.sound })

-- The argument of a code at the head: the next of the arguments, or 0 where the code takes none.
abbrev pub argument : Code → List ℤ → ℤ
argument c zs = cond (takes c) (get_or zs 0 (pos 0)) (pos 0)

-- The head of what is seen.
pub head_some : (cs : List Code) (zs : List ℤ) (p : Option ℤ) (n : ℕ) (c : Code) → slice_get cs 0 ≡ Some c → Tied cs zs p n
    → (Some (record { entry = record { code = c; operand = argument c zs }; serial = n - length cs + 1 }) ≡ head_of (seen cs zs p n))
    × InRange (argument c zs)
head_some [] zs p n c some t = cc
head_some (d ∷ cs) zs p n c some t =
    let same : d ≡ c = cc in
    let all = t.sound.in_place in
    let here : in_range (argument d zs) ≡ true = grind arith in
    rw (← same) (rw (length-paired cs) refl, (grind (arith, ints), grind (arith, ints)))

pub head_none : (cs : List Code) (zs : List ℤ) (p : Option ℤ) (n : ℕ) → slice_get cs 0 ≡ None → None ≡ head_of (seen cs zs p n)
head_none [] zs p n none = refl
head_none (c ∷ cs) zs p n none = cc

-- What the calls of a queue cite.
pub ruleset waiting = (length-paired, arguments_paired)
