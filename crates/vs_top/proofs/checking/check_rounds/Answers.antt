use Rattle.std.proofs.Common.{ℕ, ◌≡◌, ◌<◌, ◌≤◌, ◌*◌, length, is_some, Some, refl, sym, ap, ◌∙◌, subst, arith}
use Rattle.std.specs.List.{count_by}
use Rattle.vs_misses.specs.Watch.{Watch}
use Rattle.vs_top.specs.declared.outcome.Summary.{Summary}
use Rattle.vs_top.specs.Checked.{IsChecked}
use Rattle.vs_top.specs.Verdicts.{missed_lanes}
use Rattle.vs_top.proofs.Checks.{whole_check, whole_checked, few_operations, stopped_check}
use Rattle.vs_top.proofs.Ends.{same_summary}
use Rattle.vs_top.proofs.checking.check_rounds.Goals as goal

pub returns-in-Ok-clause-ended : goal.returns-in-Ok-clause-ended
returns-in-Ok-clause-ended g c = λ old b.
    let job = c.args.job.now in
    let some : 0 < length job.stimuli = omega (arith, c.requires.job.some) in
    let counts = c.in-Ok.counts in
    let summary : Summary = record { lanes = c.len.result; vectors = counts.vectors; settlings = counts.settlings; size = c.args.check.now.size; operations = counts.operations; missed = Some c.count.result } in
    let missed : Some c.count.result ≡ Some (missed_lanes c.rounds.new.self.misses.found) = ap (λ (n : ℕ). Some n) (c.count.ensures ∙ ap (λ (w : Watch). count_by is_some w.found) c.misses.ensures) in
    whole_check g.W.Word.lane c.verdict_law.ensures.every c.verdict_law.ensures.some c.known_law.ensures.some job old (g.D.Desk.told c.args.desk.now) (g.D.Desk.told c.rounds.new.desk)
    c.args.check.now.checker c.args.check.now.size c.rounds.new.self.misses.found summary c.args.steps.now c.rounds.new.steps c.requires.mode some c.len.ensures refl missed b
    (record {
      done = λ t run h. c.in-Ok.ensures.done t run h;
      counted = λ t run h. c.in-Ok.ensures.counted t run h;
      lanes = c.rounds.ensures.lanes;
      same = c.in-Ok.ensures.same;
      operations = c.in-Ok.ensures.operations;
      ticked = c.in-Ok.ensures.ticked;
      others = λ t. c.rounds.ensures.others t;
    })

pub returns-in-Ok-clause-checked : goal.returns-in-Ok-clause-checked
returns-in-Ok-clause-checked g c = λ old b t s is.
    let job = c.args.job.now in
    let some : 0 < length job.stimuli = omega (arith, c.requires.job.some) in
    let counts = c.in-Ok.counts in
    let summary : Summary = record { lanes = c.len.result; vectors = counts.vectors; settlings = counts.settlings; size = c.args.check.now.size; operations = counts.operations; missed = Some c.count.result } in
    let missed : Some c.count.result ≡ Some (missed_lanes c.rounds.new.self.misses.found) = ap (λ (n : ℕ). Some n) (c.count.ensures ∙ ap (λ (w : Watch). count_by is_some w.found) c.misses.ensures) in
    subst (λ (u : Summary). IsChecked job old.contents (g.D.Desk.told c.rounds.new.desk).contents c.rounds.new.self.misses.found u) (same_summary summary s is)
    (whole_checked g.W.Word.lane c.verdict_law.ensures.every c.verdict_law.ensures.some c.known_law.ensures.some job old (g.D.Desk.told c.args.desk.now) (g.D.Desk.told c.rounds.new.desk)
    c.args.check.now.checker c.args.check.now.size c.rounds.new.self.misses.found summary c.args.steps.now c.rounds.new.steps some c.len.ensures refl missed b
    (record {
      done = λ t run h. c.in-Ok.ensures.done t run h;
      counted = λ t run h. c.in-Ok.ensures.counted t run h;
      lanes = c.rounds.ensures.lanes;
      same = c.in-Ok.ensures.same;
      operations = c.in-Ok.ensures.operations;
      ticked = c.in-Ok.ensures.ticked;
      others = λ t. c.rounds.ensures.others t;
    })
    t)

pub returns-in-Ok-clause-missed : goal.returns-in-Ok-clause-missed
returns-in-Ok-clause-missed g c = λ s is.
    let counts = c.in-Ok.counts in
    let summary : Summary = record { lanes = c.len.result; vectors = counts.vectors; settlings = counts.settlings; size = c.args.check.now.size; operations = counts.operations; missed = Some c.count.result } in
    ap (λ (u : Summary). u.missed) (sym (same_summary summary s is)) ∙ ap (λ (n : ℕ). Some n) (c.count.ensures ∙ ap (λ (w : Watch). count_by is_some w.found) c.misses.ensures)

pub returns-in-Ok-clause-within : goal.returns-in-Ok-clause-within
returns-in-Ok-clause-within g c = λ old b s is.
    let counts = c.in-Ok.counts in
    let summary : Summary = record { lanes = c.len.result; vectors = counts.vectors; settlings = counts.settlings; size = c.args.check.now.size; operations = counts.operations; missed = Some c.count.result } in
    subst (λ (u : Summary). u.operations ≤ u.size * u.settlings) (same_summary summary s is)
    (few_operations g.W.Word.lane c.args.job.now old (g.D.Desk.told c.args.desk.now) c.args.check.now.checker c.args.check.now.size counts.settlings counts.operations c.args.steps.now c.rounds.new.steps b
    (λ d clocks program. c.in-Ok.ensures.within d clocks program) c.in-Ok.ensures.operations)

pub returns-in-Err-clause-ended : goal.returns-in-Err-clause-ended
returns-in-Err-clause-ended g c = λ old b.
    stopped_check g.W.Word.lane c.args.job.now old _ _ c.args.check.now.checker c.args.check.now.size c.rounds.new.self.misses.found c.in-Err.stop c.stop_outcome.result
    c.stop_outcome.ensures.outcome c.requires.mode b c.rounds.ensures.lanes c.in-Err.ensures.lane c.in-Err.ensures.stimulus c.in-Err.ensures.cause
    (λ t run h. c.in-Err.ensures.stops t run h) (λ t. c.rounds.ensures.others t)
