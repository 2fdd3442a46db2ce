use Rattle.std.proofs.Common.{get_or}
use Rattle.vs_sets.specs.Nodes.{tree_of}
use Rattle.vs_sets.proofs.CaseSteps.{each_fit_item, each_within}
use Rattle.vs_sets.proofs.Fit.{fits-from_fit}
use Rattle.vs_zero.proofs.CaseSteps.{each_constant}
use Rattle.vs_zero.proofs.cases.is_taken.Goals as goal

pub value-value-requires-clause-valued : goal.value-value-requires-clause-valued
value-value-requires-clause-valued c =
    let tree = tree_of c.args.shapes.now in
    record {
      constant = each_constant tree c.args.items.now c.loop-item.item-index c.requires.constant c.loop-item-test.true;
      fits = fits-from_fit (tree (get_or c.args.items.now c.loop-item.item-index 0)) (each_fit_item tree c.args.items.now c.loop-item.item-index c.requires.fit c.loop-item-test.true);
    }

pub value-value-requires-clause-fits : goal.value-value-requires-clause-fits
value-value-requires-clause-fits c = each_within c.args.context.width (tree_of c.args.shapes.now) c.args.items.now c.loop-item.item-index c.requires.within c.loop-item-test.true
