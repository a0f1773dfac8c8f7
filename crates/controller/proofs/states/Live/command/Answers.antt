use Rattle.std.proofs.Common.{length, Err, sym, refl, ap, ◌∙◌, arith}
use Rattle.drive.proofs.Indices.{axes_is}
use Rattle.command.specs.Reading.{read}
use Rattle.model.specs.declared.refusal.Refusal.TheVariants.{Sheet, Answer, Text}
use Rattle.model.specs.Controller.{live, command, erring, noted, commanded, call}
use Rattle.controller.specs.Replies.{Did}
use Rattle.controller.specs.Views.{live_view}
use Rattle.controller.proofs.Refusing.{refused_by}
use Rattle.controller.proofs.Calls.{did_by, lent, command_taken, command_short, command_narrow}
use Rattle.controller.proofs.Shorts.{recorded_short}
use Rattle.controller.proofs.Backs.{read_back}
use Rattle.controller.proofs.states.Live.command.Goals as goal

pub returns-in_err-sheet-clause-does : goal.returns-in_err-sheet-clause-does
returns-in_err-sheet-clause-does g c =
    let l = live_view g.D.Drive.state c.args.self.now in
    let none = c.in_err-sheet.ensures.ok_part in
    let short = rw none at c.as_mut_array.ensures.cases in
    did_by (command_short g.D.Drive.ops l c.args.sheet.now c.args.port c.args.text.now c.args.answer.now (λ e. short (e ∙ axes_is)))
    (record { now = refl; says = refused_by _ _ _ Sheet c.in_err-sheet.ensures.value none c.from_residual.ensures; rows = refl; answer = refl })

pub returns-in_err-answer-clause-does : goal.returns-in_err-answer-clause-does
returns-in_err-answer-clause-does g c =
    let l = live_view g.D.Drive.state c.args.self.now in
    let sheet = rw c.in_ok-sheet.ensures.ok_part at c.as_mut_array.ensures.cases in
    let none = c.in_err-answer.ensures.ok_part in
    let narrow = rw none at c.first_chunk_mut.ensures.cases in
    did_by (command_narrow g.D.Drive.ops l c.args.sheet.now c.args.port c.args.text.now c.args.answer.now (sheet.long ∙ sym axes_is) narrow)
    (record { now = refl; says = refused_by _ _ _ Answer c.in_err-answer.ensures.value none c.from_residual-in_err-answer.ensures; rows = sheet.same; answer = refl })

pub note-requires : goal.note-requires
note-requires g c =
    let short = recorded_short c.args.port _ _ _ c.args.text.now c.in-Err.unread c.in-Err.ensures in
    omega (arith, ap length c.recorded.ensures, short)

pub returns-in-Ok : goal.returns-in-Ok
returns-in-Ok g c =
    let o = g.D.Drive.ops in
    let l = live_view g.D.Drive.state c.args.self.now in
    let text = c.args.text.now in
    let sheet = rw c.in_ok-sheet.ensures.ok_part at c.as_mut_array.ensures.cases in
    let front = rw c.in_ok-answer.ensures.ok_part at c.first_chunk_mut.ensures.cases in
    let asked = c.in-Ok.ensures ∙ ap (λ ts. read c.args.port l.selection l.last ts text) c.settings.ensures in
    let taken = command_taken o l c.args.sheet.now c.args.port text c.args.answer.now (sheet.long ∙ sym axes_is) front.enough in
    let did = lent c.args.answer.now front.enough sheet.same front.same c.obey.ensures.fits (did_by (ap (commanded o l c.args.port text) asked ∙ taken) c.obey.ensures.does) in
    record { does = did; back = read_back o g.met.D.Drive.keeps l c.args.port text did }

pub returns-in-Err : goal.returns-in-Err
returns-in-Err g c =
    let o = g.D.Drive.ops in
    let l = live_view g.D.Drive.state c.args.self.now in
    let text = c.args.text.now in
    let sheet = rw c.in_ok-sheet.ensures.ok_part at c.as_mut_array.ensures.cases in
    let front = rw c.in_ok-answer.ensures.ok_part at c.first_chunk_mut.ensures.cases in
    let asked = c.in-Err.ensures ∙ ap (λ ts. read c.args.port l.selection l.last ts text) c.settings.ensures in
    let taken = command_taken o l c.args.sheet.now c.args.port text c.args.answer.now (sheet.long ∙ sym axes_is) front.enough in
    let rows = c.in_ok-sheet.sheet.now in
    let bytes = c.in_ok-answer.answer.now in
    let left : Did (call o (live l) (command c.args.port text c.args.sheet.now c.args.answer.now)) (live (live_view g.D.Drive.state c.note.new.self)) (Err (Text c.in-Err.unread)) rows rows bytes bytes =
    did_by (ap (commanded o l c.args.port text) asked ∙ taken) (record {
      now = ap live (c.note.ensures ∙ ap (λ bs. erring l (noted c.args.port l.errors bs)) c.recorded.ensures);
      says = refl;
      rows = refl;
      answer = refl;
    }) in
    let did = lent c.args.answer.now front.enough sheet.same front.same tt left in
    record { does = did; back = read_back o g.met.D.Drive.keeps l c.args.port text did }
