use Rattle.std.proofs.Common.{[], ◌∷◌, ◌++◌, Ok, sym, ap, ◌∙◌, le_trans, arith}
use Rattle.text.proofs.Storing.{over_fits}
use Rattle.command.specs.Requests.{batch_on}
use Rattle.model.specs.Controller.{live, erring, addressed, all_parts, place_unless, obey}
use Rattle.controller.specs.Views.{live_view}
use Rattle.controller.proofs.Calls.{did_by, shown_apart, blank_is, placing_is, clearing_is}
use Rattle.controller.proofs.Shorts.{figures_short, position_small, places_small}
use Rattle.controller.proofs.states.Live.obey.Goals as goal
use Rattle.controller.proofs.states.Live.obey.Goals.{in-Select, in-Place+in_ok-admits-in-Place, in-Clear, in-Positions, in-Places, in-ErrorRecord}

pub invariant_of-self-clause-bounded : goal.invariant_of-self-clause-bounded
invariant_of-self-clause-bounded g c =
    let bounded = c.args.self.now.bounded in
    elim c.match-request.branch [
      | in-Select w ↦ rw w.self-is bounded
      | in-Place+in_ok-admits-in-Place w ↦ rw w.self-is bounded
      | in-Clear w ↦ rw w.self-is w.clear.new.self.bounded
      | in-Positions w ↦ rw w.self-is bounded
      | in-Places w ↦ rw w.self-is bounded
      | in-ErrorRecord w ↦ rw w.self-is bounded
    ]

pub returns : goal.returns
returns g c =
    let o = g.D.Drive.ops in
    let l = live_view g.D.Drive.state c.args.self.now in
    let last = c.args.command.last in
    let request = c.args.command.request in
    let k = addressed l l.selection last in
    let left = shown_apart g.D.Drive.state last in
    elim c.match-request.branch [
      | in-Select w ↦ record {
        does = did_by (ap (obey o l last) (sym w.in-Select.is)) (record { now = ap left w.self-is; says = ap Ok w.len-is; rows = w.sheet-is ∙ blank_is; answer = w.answer-is });
        fits = omega arith;
      }
      | in-Place+in_ok-admits-in-Place w ↦ record {
        does = did_by (ap (all_parts k) w.place_each.ensures ∙ ap (place_unless o l k (batch_on request)) w.in_ok-admits-in-Place.ensures ∙ placing_is o l last request _ _ _ w.in-Place.is)
            (record { now = ap left w.self-is; says = ap Ok w.len-is; rows = w.sheet-is; answer = w.answer-is });
        fits = omega arith;
      }
      | in-Clear w ↦ record {
        does = did_by (clearing_is o l last request _ _ w.in-Clear.is) (record {
          now = ap left w.self-is ∙ ap (λ v. live (addressed v v.selection last)) w.clear.ensures.does;
          says = ap Ok w.len-is;
          rows = w.sheet-is ∙ w.clear.ensures.rows;
          answer = w.answer-is;
        });
        fits = omega arith;
      }
      | in-Positions w ↦
          let short = figures_short _ (position_small o l.machine g.met.D.Drive.keeps) w.in-Positions.of in
          record {
            does = did_by (ap (obey o l last) (sym w.in-Positions.is)) (record {
              now = ap left w.self-is;
              says = ap Ok (w.len-is ∙ w.write_figures-len.ensures.len);
              rows = w.sheet-is ∙ blank_is;
              answer = w.answer-is ∙ w.write_figures-len.ensures.block ∙ over_fits _ c.args.answer.now (le_trans short (omega arith));
            });
            fits = omega (arith, short, w.write_figures-len.ensures.len);
          }
      | in-Places w ↦
          let short = figures_short _ (places_small o l.machine) w.in-Places.of in
          record {
            does = did_by (ap (obey o l last) (sym w.in-Places.is)) (record {
              now = ap left w.self-is;
              says = ap Ok (w.len-is ∙ w.write_figures-len-in-Places.ensures.len);
              rows = w.sheet-is ∙ blank_is;
              answer = w.answer-is ∙ w.write_figures-len-in-Places.ensures.block ∙ over_fits _ c.args.answer.now (le_trans short (omega arith));
            });
            fits = omega (arith, short, w.write_figures-len-in-Places.ensures.len);
          }
      | in-ErrorRecord w ↦ record {
        does = did_by (ap (obey o l last) (sym w.in-ErrorRecord.is)) (record {
          now = ap left w.self-is ∙ ap (λ bs. live (erring k bs)) w.clear-in-ErrorRecord.ensures;
          says = ap Ok (w.len-is ∙ w.write-len.ensures.len);
          rows = w.sheet-is ∙ blank_is;
          answer = w.answer-is ∙ w.write-len.ensures.block ∙ over_fits (c.args.self.now.errors ++ (10 ∷ [])) c.args.answer.now (omega arith);
        });
        fits = omega arith;
      }
    ]
