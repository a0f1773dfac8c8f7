use Rattle.std.proofs.Common.{true, None, Err, ap, ◌∙◌, arith, rules}
use Rattle.std.proofs.lemmas.Int.{to_z-of_z}
use Rattle.drive.specs.declared.motion.Decline.TheVariants.{Reach}
use Rattle.drive.specs.Axes.{index}
use Rattle.model.specs.Machine.{clear, perform}
use Rattle.parts.specs.Turns.{executing}
use Rattle.parts.specs.Views.{machine_view, part}
use Rattle.parts.proofs.Branches.{overreached, replied, left}
use Rattle.parts.proofs.machine.Machine.begin.Goals as goal

pub returns-in-Ok : goal.returns-in-Ok
unfolding perform
returns-in-Ok g c =
    let o = g.D.Drive.ops in
    let k = index c.args.axis in
    let was = machine_view g.D.Drive.state c.args.self.now in
    let same = to_z-of_z _ _ c.ranges.target in
    let told = c.in-Ok.ensures in
    let gone = left o k was _ c.args.head.entry _ _ same told.answer _ told.after in
    c.execute.ensures
    ∙ ap (λ s. executing o k (record { drive = s; posts = was.posts; output = was.output }) None c.args.head.entry) gone
    ∙ replied o k was _ c.args.head.entry _ _ same told.answer

pub returns-in-Err-Down : goal.returns-in-Err-Down
unfolding perform
returns-in-Err-Down g c =
    let was = machine_view g.D.Drive.state c.args.self.now in
    let same = to_z-of_z _ _ c.ranges.target in
    let told = c.in-Err-Down.ensures in
    let gone = left g.D.Drive.ops _ was _ c.args.head.entry _ _ same told.answer _ told.after in
    (grind arith) ∙ replied g.D.Drive.ops _ was _ c.args.head.entry _ _ same told.answer

pub returns-in-Err-Reach : goal.returns-in-Err-Reach
returns-in-Err-Reach g c =
    let o = g.D.Drive.ops in
    let k = index c.args.axis in
    let was = machine_view g.D.Drive.state c.args.self.now in
    let same = to_z-of_z _ _ c.ranges.target in
    let told = c.in-Err-Reach.ensures in
    let gone = left o k was _ c.args.head.entry _ _ same told.answer _ told.after in
    let cleared = c.clear.ensures ∙ ap (λ s. clear o true k (record { drive = s; posts = was.posts; output = was.output })) gone in
    ap (part g.D.Drive.state c.clear.new.self) c.counted.ensures ∙ overreached o k was _ cleared ∙ replied o k was (Err Reach) c.args.head.entry _ _ same (search rules)
