use Rattle.std.proofs.Common.{codes}
use Rattle.vs_excerpt.specs.Escapes.{escaped}
use Rattle.vs_explanation.proofs.Added.{then_ok}
use Rattle.vs_explanation.proofs.naming.push_lacking.Goals as goal

pub returns : goal.returns
returns c =
    then_ok c.text-2.result _ _ _ (codes "note: no field names the data input ") _ c.in_ok-text.ensures
    (then_ok c.text-2.result _ _ _ (escaped c.args.name.now) _ c.in_ok-escaped.ensures c.text-2.ensures)
