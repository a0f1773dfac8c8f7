use Rattle.std.proofs.Common.{[], ◌∷◌}
use Rattle.queue.specs.Entries.{settled}
use Rattle.queue.proofs.Waits.{Roomy-append}
use Rattle.queue.proofs.axis.AxisQueue.place.Goals as goal

pub append-requires-in-Two : goal.append-requires-in-Two
append-requires-in-Two c =
    (Roomy-append c.args.self.now (settled c.in-Two.first ∷ []) (settled c.in-Two.second ∷ []) (rw c.in-Two.is at c.in_ok-room_for.ensures.roomy)).0

pub append-requires-in-Two-2 : goal.append-requires-in-Two-2
append-requires-in-Two-2 c =
    rw c.append-in-Two.ensures.does
    (Roomy-append c.args.self.now (settled c.in-Two.first ∷ []) (settled c.in-Two.second ∷ []) (rw c.in-Two.is at c.in_ok-room_for.ensures.roomy)).1
