use Rattle.std.proofs.Common.{◌≡◌, ◌^◌, ◌<◌, drop}
use Rattle.listing.specs.Hex.{following}
use Rattle.listing.proofs.hex.read_digits.Given as goal

abbrev pub invariant-loop-byte : goal.invariant-loop-byte
invariant-loop-byte l = record {
  read : following l.number (drop l.byte-index l.text) ≡ following 0 l.text;
  small : l.number < 16 ^ l.byte-index;
}
