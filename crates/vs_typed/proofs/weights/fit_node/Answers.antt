use Rattle.std.proofs.Common.{◌≡◌, true, subst}
use Rattle.vs_design.specs.Fits.{is_fit}
use Rattle.vs_shape.specs.Nodes.{tree_of_node}
use Rattle.vs_sets.proofs.Fit.{fit_parts}
use Rattle.vs_typed.proofs.weights.fit_node.Goals as goal

pub returns-clause-parts : goal.returns-clause-parts
returns-clause-parts c = fit_parts (tree_of_node c.args.shapes.now c.node_in.result.now) (subst (λ e. is_fit e ≡ true) c.node_in.ensures.tree c.requires.fit)
