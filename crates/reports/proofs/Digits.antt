-- The hexadecimal digits. Assumes nothing.
use Rattle.std.proofs.Common.{◌≡◌, ℕ, ◌<◌, true, get_or, codes, zero-add}
use Rattle.std.specs.Fmt.{digit_glyph}
use Rattle.std.proofs.lemmas.List.FromFn.{get_or-map-range_with_len}

pub digit_at : (d : ℕ) → d < 16 → get_or (codes "0123456789ABCDEF") d 0 ≡ digit_glyph true d
digit_at d small = get_or-map-range_with_len (digit_glyph true) 0 16 d d 0 small (zero-add d)
