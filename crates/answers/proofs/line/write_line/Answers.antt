use Rattle.std.proofs.Common.{◌≡◌, suc, length, get_or, drop, pos, sym, ap, ◌∙◌, arith, w64, SFits, rules}
use Rattle.std.proofs.lemmas.Int.{to_z-of_z}
use Rattle.text.specs.Writing.{over}
use Rattle.answers.proofs.Lines.{ends, fields_none, fields_all, ends_more, ends_last, wrote_more}
use Rattle.answers.proofs.line.write_line.Goals as goal
use Rattle.answers.proofs.line.write_line.Goals.{then-i-numbers, else-i-numbers}

pub loop-i-init : goal.loop-i-init
loop-i-init c =
    let none = sym (fields_none c.args.numbers.now) in
    (record { end = ap length none; is = ap (λ l. over l c.args.block.now) none }, omega arith)

pub write_field-at-requires : goal.write_field-at-requires
write_field-at-requires c = omega arith

pub loop-i-preserved : goal.loop-i-preserved
loop-i-preserved c =
    let zs = c.args.numbers.now in
    let i = c.loop-i.i in
    let end : c.if-i-numbers.end ≡ ends (drop (suc i) zs) =
    elim c.if-i-numbers.branch [
      | then-i-numbers w ↦ w.end-is ∙ ends_more zs i w.if-i-numbers.true
      | else-i-numbers w ↦ w.end-is ∙ ends_last zs i w.if-i-numbers.false
    ] in
    let fits : SFits w64 (get_or zs i (pos 0)) = search rules in
    let far = simp to_z-of_z at c.write_field-at.ensures.end in
    let stored = simp to_z-of_z at c.write_field-at.ensures.block in
    (wrote_more zs c.args.block.now i c.loop-i.at c.loop-i.block c.if-i-numbers.end _ _ c.loop-i-test.true end c.loop-i.invariant.0 far stored, omega arith)

pub returns : goal.returns
returns c =
    let all = fields_all c.args.numbers.now c.loop-i.i (omega arith) in
    record {
      len = c.loop-i.invariant.0.end ∙ ap length all;
      block = c.loop-i.invariant.0.is ∙ ap (λ l. over l c.args.block.now) all;
    }
