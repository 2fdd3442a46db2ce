use Rattle.std.proofs.Common.{codes}
use Rattle.std.specs.Prelude.{decimal}
use Rattle.vs_explanation.proofs.Added.{then_ok}
use Rattle.vs_explanation.proofs.stimuli.push_wrong.Goals as goal

pub returns : goal.returns
returns c =
    then_ok c.push_problem.result _ _ _ (codes "note: field ") _ c.in_ok-text.ensures
    (then_ok c.push_problem.result _ _ _ (decimal c.args.wrong.now.place) _ c.in_ok-number.ensures c.push_problem.ensures)
