use Rattle.std.proofs.Common.{◌≡◌, ◌+◌, length, set, ap, ◌∙◌, arith, w64, SFits}
use Rattle.std.proofs.lemmas.List.{length_push}
use Rattle.std.proofs.lemmas.Int.{to_z-of_z}
use Rattle.text.specs.Writing.{decimal, put}
use Rattle.text.proofs.Storing.{put-push}
use Rattle.answers.proofs.Puts.{put_lent_min}
use Rattle.answers.proofs.line.write_field.Goals as goal

pub returns : goal.returns
returns c =
    let bs = decimal c.args.n in
    let block = c.args.block.now in
    let end = c.args.end in
    let fits : SFits w64 c.args.n = c.ranges.n in
    let long : c.write_number-len.result ≡ length bs = simp to_z-of_z at c.write_number-len.ensures.len in
    let lent = put_lent_min c.args.at _ bs block _ c.min-tail.ensures (simp to_z-of_z at c.write_number-len.ensures.out) in
    record {
      end = omega (arith, length_push bs end);
      block =
          c.store.ensures
          ∙ ap (λ b. set b (c.args.at + c.write_number-len.result) end) lent
          ∙ ap (λ k. set (put c.args.at bs block) (c.args.at + k) end) long
          ∙ put-push c.args.at bs end block;
      most = omega arith;
    }
