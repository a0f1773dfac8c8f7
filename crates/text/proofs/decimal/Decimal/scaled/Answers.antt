use Rattle.std.proofs.Common.{◌≡◌, ◌+◌, ◌^◌, ◌*ℤ◌, nat_abs, sym, ◌∙◌, subst, arith, w64, to_z, of_z, rules}
use native.Mathlib.Nat.{one-le-pow}
use Rattle.std.proofs.lemmas.Int.{ints, to_z-of_z}
use Rattle.text.specs.Scaling.{nearest, Nearest}
use Rattle.text.proofs.Rounding.{product_small, small_fits, times, ten_fits, near}
use Rattle.text.proofs.decimal.Decimal.scaled.Goals as goal

pub overflow_cast-unit : goal.overflow_cast-unit
overflow_cast-unit c =
    let l = ten_fits (c.self.inside.places + c.factor.inside.places) (omega (arith, c.self.invariant.1, c.factor.invariant.1)) in
    search rules

pub divided-requires : goal.divided-requires
divided-requires c =
    let l = ten_fits (c.self.inside.places + c.factor.inside.places) (omega (arith, c.self.invariant.1, c.factor.invariant.1)) in
    let some = one-le-pow (c.self.inside.places + c.factor.inside.places) 10 (omega arith) in
    search (rules, ints, to_z-of_z, product_small, small_fits)

pub returns : goal.returns
returns c =
    let d = c.self.inside in
    let f = c.factor.inside in
    let product = d.value *ℤ f.value in
    let unit = 10 ^ (d.places + f.places) in
    let l = ten_fits (d.places + f.places) (omega (arith, c.self.invariant.1, c.factor.invariant.1)) in
    let some = one-le-pow (d.places + f.places) 10 (omega arith) in
    let by : nat_abs (to_z w64 c.pow-unit.result) ≡ unit = omega (arith, ints) in
    let is : to_z w64 (of_z w64 c.divided.result) ≡ nearest product unit = to_z-of_z w64 _ (record { sfits = c.divided.type_inv }) ∙ c.divided.ensures ∙ (λ i. nearest (times d.value f.value c.self.invariant.0 c.factor.invariant.0 i) (by i)) in
    rw (← c.self.view_is, ← c.factor.view_is) (record { value = is; near = subst (Nearest product unit) (sym is) (near product unit some) })
