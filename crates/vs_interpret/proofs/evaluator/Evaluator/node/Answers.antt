use Rattle.std.proofs.Common.{length, refl, ap, ◌∙◌, sym, subst, true}
use Rattle.vs_design.specs.Expressions as E
use Rattle.vs_design.specs.Fits.{fits, is_fit}
use Rattle.vs_flat.specs.Lawful.{IsLawful}
use Rattle.vs_sets.specs.Calls.{arguments_of, function_of}
use Rattle.vs_sets.specs.Nodes.{place_of, tree_of_node}
use Rattle.vs_sets.proofs.Callees.{is_call}
use Rattle.vs_sets.proofs.Fit.{and_both}
use Rattle.vs_sets.proofs.Limits.{within_parts}
use Rattle.vs_interpret.proofs.Fitting.{fitting}
use Rattle.vs_interpret.proofs.evaluator.Evaluator.node.Goals as goal

pub returns-clause-parts : goal.returns-clause-parts
returns-clause-parts c = fitting (tree_of_node c.args.self.now.shapes.now c.node.result.now) (rw c.node.ensures.tree at c.requires.fit)

pub returns-clause-within : goal.returns-clause-within
returns-clause-within c = within_parts (length c.args.self.now.values.now) (tree_of_node c.args.self.now.shapes.now c.node.result.now) (rw c.node.ensures.tree at c.requires.within)

pub returns-clause-call : goal.returns-clause-call
returns-clause-call c f arguments is =
    let a = c.args.self.now.shapes.now in
    let function = function_of a f in
    let call = E.Call function.header function.statement (arguments_of a arguments) in
    let whole = c.node.ensures.tree ∙ ap (λ m. E.At (place_of a c.args.e) (tree_of_node a m)) is in
    let fit = ap is_fit whole ∙ and_both (fits call) true (ap fits (sym whole) ∙ c.requires.fit) refl in
    is_call c.calls_law.ensures.calls c.lawful_law.ensures.expressions a (length c.args.self.now.values.now) c.args.e c.node.result.now (subst IsLawful c.flat.ensures.same c.flat.ensures.lawful) c.requires.there c.node.ensures.is
    c.node.ensures.names c.node.ensures.calls c.node.ensures.tree fit c.requires.within f arguments is
