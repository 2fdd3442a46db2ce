use Rattle.std.proofs.Common.{◌≡◌, Some, true, sym, ap, ◌∙◌, subst, arith}
use Rattle.std.specs.Prelude.{slice_get}
use Rattle.vs_design.specs.Expressions.{At}
use Rattle.vs_design.specs.Elaborated.{is_formed}
use Rattle.vs_flat.specs.declared.expressions.Node.{Node}
use Rattle.vs_flat.specs.declared.expressions.Node.TheVariants as N
use Rattle.vs_flat.specs.Arena.{Arena, declared_at}
use Rattle.vs_flat.specs.DesignOf.{callee_of}
use Rattle.vs_flat.specs.Lawful.{IsLawful, node_design}
use Rattle.vs_shape.specs.Nodes.{tree_of, place_of, tree_of_node}
use Rattle.vs_typed.proofs.CallSteps.{inputs_are, as_many_inputs, one_of_first}
use Rattle.vs_typed.proofs.weights.inputs_of.Goals as goal

pub returns-clause-inputs : goal.returns-clause-inputs
returns-clause-inputs c =
    let at = subst (λ (y : Arena). declared_at y c.args.function ≡ Some c.function.result.now) c.flat.ensures.same c.function.ensures in
    inputs_are c.args.shapes.now c.args.function c.function.result.now c.as_slice.result.now at c.as_slice.ensures

pub returns-clause-as_many : goal.returns-clause-as_many
returns-clause-as_many c =
    let a = c.args.shapes.now in
    let lawful = subst IsLawful c.flat.ensures.same c.flat.ensures.lawful in
    let at = subst (λ (y : Arena). declared_at y c.args.function ≡ Some c.function.result.now) c.flat.ensures.same c.function.ensures in
    let f = callee_of a (tree_of a) c.args.function in
    let found : c.node.result.now ≡ N.Call c.args.function c.args.arguments.now = same c.node.result.now (N.Call c.args.function c.args.arguments.now) (sym c.node.ensures.is ∙ c.requires.is) in
    let tree = c.node.ensures.tree ∙ ap (λ n. At (place_of a c.args.e) (tree_of_node a n)) found in
    let formed = subst (λ e. is_formed (node_design a c.args.e) e ≡ true) tree (c.lawful_law.ensures.expressions a lawful c.args.e c.requires.there) in
    as_many_inputs (node_design a c.args.e) (place_of a c.args.e) f.header f.statement (tree_of a) c.args.arguments.now _ formed (inputs_are a c.args.function c.function.result.now c.as_slice.result.now at c.as_slice.ensures)
  where
    same : (m n : Node) → Some m ≡ Some n → m ≡ n
    same m n e = cc

pub returns-clause-short : goal.returns-clause-short
returns-clause-short c k s is =
    let a = c.args.shapes.now in
    let lawful = subst IsLawful c.flat.ensures.same c.flat.ensures.lawful in
    let at = subst (λ (y : Arena). declared_at y c.args.function ≡ Some c.function.result.now) c.flat.ensures.same c.function.ensures in
    let d = c.function.result.now in
    let there = one_of_first d.function.inputs c.as_slice.result.now k s is in
    let few = c.lawful_law.ensures.local_bits a lawful c.args.function k d s at (subst (λ ss. slice_get ss k ≡ Some s) c.as_slice.ensures there) in
    omega (arith, few)
