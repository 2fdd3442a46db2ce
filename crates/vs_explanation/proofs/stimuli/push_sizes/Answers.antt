use Rattle.std.proofs.Common.{codes}
use Rattle.std.specs.Prelude.{decimal}
use Rattle.vs_explanation.proofs.Added.{then_ok}
use Rattle.vs_explanation.proofs.stimuli.push_sizes.Goals as goal

pub returns : goal.returns
returns c =
    then_ok c.text-2.result _ _ _ (decimal c.args.size) _ c.in_ok-number.ensures
    (then_ok c.text-2.result _ _ _ (codes " digits, and ") _ c.in_ok-text.ensures
    (then_ok c.text-2.result _ _ _ (decimal c.args.bits) _ c.in_ok-number-2.ensures c.text-2.ensures))
