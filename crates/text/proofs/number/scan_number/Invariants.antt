use Rattle.std.proofs.Common.{◌≡◌, ◌+◌, drop}
use Rattle.text.specs.Numbers.{start, scanned, Sound}
use Rattle.text.proofs.number.scan_number.Given as goal

abbrev pub invariant-loop-byte : goal.invariant-loop-byte
invariant-loop-byte l =
    Sound l.scan × (l.scan.end ≡ l.sign + l.byte-index) × (scanned l.point l.scan (drop l.byte-index l.byte-items) ≡ scanned l.point (start l.sign) l.byte-items)
