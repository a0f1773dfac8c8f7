-- A report on its way. Assumes nothing.
use Rattle.std.proofs.Common.{◌≡◌, ℕ, List, fold}
use Rattle.text.specs.Blocks.{pieces}
use Rattle.reports.specs.Tallies.{Within}
use Rattle.reports.specs.Tellings.{Telling}
use Rattle.reports.specs.Reports.{Report, blank, with_piece}

-- What is reported so far, with the texts from the offset on, is the report of the block that is read; no count passes the offset.
pub record Underway {T : Type 0} (telling : T → List ℕ → Telling T) (teller : T) (block from_block : List ℕ) (offset : ℕ) (r : Report T) : Type 0 where
  pub same : from_block ≡ block
  pub report : fold (with_piece telling) r (pieces block offset) ≡ fold (with_piece telling) (blank teller) (pieces block 0)
  pub within : Within r.tally offset
