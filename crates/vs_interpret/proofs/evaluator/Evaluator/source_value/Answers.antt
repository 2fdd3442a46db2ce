use Rattle.std.proofs.Common.{◌≤◌, ◌<◌, length, sym, subst}
use Rattle.vs_design.specs.Fits.{source_length}
use Rattle.vs_flat.specs.Arena.{Arena}
use Rattle.vs_flat.specs.Targets.{source_of}
use Rattle.vs_sets.specs.Nodes.{tree_of}
use Rattle.vs_sets.proofs.Names.{source_few}
use Rattle.vs_interpret.proofs.evaluator.Evaluator.source_value.Goals as goal

pub named_value-requires-clause-few : goal.named_value-requires-clause-few
named_value-requires-clause-few c =
    let a = c.flat.result.now in
    let e = c.args.of in
    let there = subst (λ (x : Arena). e < length x.nodes) (sym c.flat.ensures.same) c.requires.there in
    let few = source_few c.lawful_law.ensures.expressions c.trees_law.ensures.functions a e c.node_of.result.now c.flat.ensures.lawful there c.node_of.ensures.tree c.in-Name.is in
    (c.requires.some, subst (λ (x : Arena). source_length (source_of (tree_of x e)) ≤ 64) c.flat.ensures.same few)
