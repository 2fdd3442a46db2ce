use Rattle.std.specs.Prelude.{List, Option, option_map}
use Rattle.std.proofs.Common.{subst}
use Rattle.vs_refusal.specs.declared.ending.Ending.{Ending}
use Rattle.vs_misses.specs.Missed.{Found}
use Rattle.vs_explainer.specs.Told.{IsPut, ending_text}
use Rattle.vs_explainer.specs.Missed.{ExplainsDone}
use Rattle.vs_explain.proofs.explain.explain.Goals as goal

pub returns-in-Done : goal.returns-in-Done
returns-in-Done g c =
    let old = g.D.Desk.told c.args.desk.now in
    let new = g.D.Desk.told c.explain_done.new.desk in
    let job = option_map (λ j. j.now) c.args.job in
    rw c.in-Done.is
    (subst (λ (e : Ending). ExplainsDone job c.args.answered.now.found.items e old new) c.done_ending-done.ensures
    (subst (λ (found : List (Option Found)). ExplainsDone job found c.done_ending-done.result old new) c.deref.ensures.value c.explain_done.ensures))

pub returns-in-Ordered : goal.returns-in-Ordered
returns-in-Ordered g c =
    let old = g.D.Desk.told c.args.desk.now in
    let new = g.D.Desk.told c.explain_ending.new.desk in
    let job = option_map (λ j. j.now) c.args.job in
    rw c.in-Ordered.is (subst (λ (e : Ending). IsPut old new (ending_text job e)) c.ordered_ending.ensures c.explain_ending.ensures)
