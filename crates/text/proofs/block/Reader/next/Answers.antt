use Rattle.text.proofs.Cutting.{leaves, parted}
use Rattle.text.proofs.block.Reader.next.Goals as goal

pub returns-clause-left : goal.returns-clause-left
returns-clause-left c =
    let before = c.args.self.now in
    leaves before.block.now before.offset before.inside _ c.piece_from-piece.ensures.piece _ c.offset_after-self.ensures

pub returns-clause-parted : goal.returns-clause-parted
returns-clause-parted c = let before = c.args.self.now in parted before.block.now before.offset before.inside
