-- A step takes each axis by itself.
use Rattle.std.proofs.Common.{sym, ap, ◌∙◌, le_refl, arith}
use Rattle.drive.specs.Axes.{axes}
use Rattle.drive.specs.Drive.{Ops}
use Rattle.drive.specs.Laws.{Keeps}
use Rattle.model.specs.Rows.{nothing}
use Rattle.model.specs.Machine.{turn}
use Rattle.model.specs.Stances.{Alone, Decided}
use Rattle.model.proofs.Folds.{took}
use Rattle.model.proofs.Deeds.{found, turned, row}
use Rattle.model.proofs.Turns.{turn_at, turn_spares}

pub decided : {S T : Type 0} (o : Ops S) (p : Ops T) → Keeps o → Keeps p → Decided o p
decided o p keeps kept w x m n inside here there e =
    let a = turn_at o keeps x inside m (omega arith) w in
    let b = turn_at p kept x inside n (omega arith) w in
    (a.0 ∙ ap (λ v. row v (found w v)) e ∙ sym b.0, a.1 ∙ ap (λ v. turned v (found w v)) e ∙ sym b.1)

pub alone : {S : Type 0} (o : Ops S) → Keeps o → Alone o
alone o keeps w x m inside size =
    let t = took o (turn o w) (turn_spares o keeps w) x inside axes m (le_refl axes) inside in
    let d = decided o o keeps keeps w x t.mid m inside (t.size ∙ size) size t.before in
    (t.tells nothing ∙ d.0, t.after ∙ d.1)
