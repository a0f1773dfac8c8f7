use Rattle.std.proofs.Common.{◌≡◌, ◌-◌, length, rules, arith}
use Rattle.command.proofs.mount.read_mount.Goals as goal

pub returns : goal.returns
returns c =
    let at : c.in_ok-name.rest.at ≡ length c.whole.result.bytes.now - length c.in_ok-name.rest.bytes.now = omega (arith, c.in_ok-name.ensures.end) in
    rw (← c.whole.ensures.bytes, ← c.in_ok-name.ensures.name, ← at) (search rules)
