use Rattle.std.proofs.Common.{◌≡◌, [], fold, sym, ap, ◌∙◌, subst}
use Rattle.text.specs.Blocks.{pieces}
use Rattle.reports.specs.Reports.{so_far, with_piece, ended, reported}
use Rattle.reports.proofs.block.report.Goals as goal

pub returns : goal.returns
unfolding reported
returns g c =
    let now = c.loop-part.invariant in
    let draft = so_far c.loop-part.draft in
    let left = subst (λ b. pieces b c.loop-part.reader.offset ≡ []) now.same c.in-End.ensures.left in
    let whole : ended draft ≡ reported g.T.Teller.telling c.args.teller c.args.block.now = ap ended (ap (fold (with_piece g.T.Teller.telling) draft) (sym left) ∙ now.report) in
    cc (c.in_ok-writeln.ensures.bytes)
