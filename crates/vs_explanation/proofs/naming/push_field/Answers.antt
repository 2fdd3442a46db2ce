use Rattle.std.proofs.Common.{codes}
use Rattle.std.specs.Prelude.{decimal}
use Rattle.vs_excerpt.specs.Escapes.{escaped}
use Rattle.vs_explanation.proofs.Added.{then_ok}
use Rattle.vs_explanation.proofs.naming.push_field.Goals as goal

pub returns : goal.returns
returns c =
    then_ok c.text-3.result _ _ _ (codes "note: field ") _ c.in_ok-text.ensures
    (then_ok c.text-3.result _ _ _ (decimal c.args.place) _ c.in_ok-number.ensures
    (then_ok c.text-3.result _ _ _ (codes ", ") _ c.in_ok-text-2.ensures
    (then_ok c.text-3.result _ _ _ (escaped c.args.name.now) _ c.in_ok-escaped.ensures c.text-3.ensures)))
