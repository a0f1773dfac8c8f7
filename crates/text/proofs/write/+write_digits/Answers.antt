use Rattle.std.proofs.Common.{◌+◌, length, sym, ap, ◌∙◌, arith}
use Rattle.std.proofs.lemmas.Fmt.{decimal_digit, length-decimal-le}
use Rattle.text.specs.Writing.{put}
use Rattle.text.proofs.Storing.{put_digit}
use Rattle.text.proofs.write.+write_digits.Goals as goal

pub returns-then-n-lt10 : goal.returns-then-n-lt10
returns-then-n-lt10 t c =
    let one = sym (decimal_digit c.args.n c.if-n-lt10.true) in
    record {
      end = ap (λ ds. c.args.at + length ds) one;
      out = c.store.ensures ∙ ap (λ ds. put c.args.at ds c.args.out.now) one;
      most = omega arith;
      short = λ _. omega arith;
    }

pub returns-else-n-lt10 : goal.returns-else-n-lt10
returns-else-n-lt10 t c =
    let told = c.write_digits-end.ensures in
    let more = put_digit c.args.at c.args.n c.write_digits-end.result c.write_digits-end.new.out c.args.out.now c.if-n-lt10.false (omega arith) told.end told.out in
    record {
      end = more.0;
      out = c.store-else-n-lt10.ensures ∙ more.1;
      most = omega (arith, more.0, length-decimal-le 20 c.args.n (omega arith) (omega arith) (omega arith));
      short = λ small. omega (arith, more.0, length-decimal-le 10 c.args.n (omega arith) small (omega arith));
    }
