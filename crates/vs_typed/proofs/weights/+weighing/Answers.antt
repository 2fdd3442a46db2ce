use Rattle.std.proofs.Common.{◌≡◌, ◌<◌, ◌+◌, ◌*◌, ℕ, true, List, length, map, refl, sym, ap, ap₂, ◌∙◌, subst, arith}
use Rattle.vs_design.specs.Expressions.{At}
use Rattle.vs_design.specs.Fits.{is_fit}
use Rattle.vs_design.specs.Sizes.{weight}
use Rattle.vs_flat.specs.declared.expressions.Node.{Node}
use Rattle.vs_flat.specs.Trees.{joined, first_copy}
use Rattle.vs_shape.specs.Nodes.{EachBelow, HasNames, tree_of, place_of, tree_of_node}
use Rattle.vs_sets.specs.FitParts.{FitParts}
use Rattle.vs_typed.specs.Weights.{capped, own_weights}
use Rattle.vs_typed.proofs.LeastSteps.{copy_below}
use Rattle.vs_typed.proofs.WeightSteps.{joined_weight, parts_fit}
use Rattle.std.proofs.lemmas.Option.{slice_get_read}
use Rattle.vs_four.specs.Selects.{range_length}
use Rattle.vs_design.specs.Expressions.{Signal, is_constant, width}
use Rattle.vs_design.specs.Sizes.{statement_weight}
use Rattle.vs_flat.specs.DesignOf.{callee_of}
use Rattle.vs_flat.specs.Trees.{signals_from}
use Rattle.vs_shape.specs.Nodes.{HasCalls}
use Rattle.vs_typed.specs.Reach.{CallsFirst}
use Rattle.vs_typed.specs.Weights.{EachFits, call_inputs}
use Rattle.vs_typed.proofs.Capped.{own_added, times_capped}
use Rattle.vs_typed.proofs.CallSteps.{argument_step, arguments_done, inputs_count}
use Rattle.vs_typed.proofs.CalleeSteps.{weight_of_callee}
use Rattle.vs_typed.proofs.LeastSteps.{drop_none}
use Rattle.vs_typed.proofs.WeightSteps.{each_item, weighed}
use Rattle.vs_typed.proofs.weights.+weighing.Goals as goal

pub add_weight-add_parts-requires : goal.add_weight-add_parts-requires
add_weight-add_parts-requires t c =
    let a = c.args.shapes.now in
    let names = subst (HasNames (length a.signals) c.args.e) c.in-Join.is c.fit_node.ensures.names in
    let parts = subst (λ (n : Node). FitParts (tree_of_node a n)) c.in-Join.is c.fit_node.ensures.parts in
    let copied = c.first_copy.ensures.copy ∙ ap first_copy c.as_slice.ensures in
    let below = copy_below c.args.e c.as_slice.result.now c.first_copy.result.now (subst (EachBelow c.args.e) (sym c.as_slice.ensures) names) c.first_copy.ensures.prefix c.first_copy.ensures.short in
    let fit = subst (λ (ps : List ℕ). is_fit (joined (map (tree_of a) ps)) ≡ true) (sym copied) parts.1 in
    (omega arith, (c.requires.table, (omega (arith, c.requires.there), parts_fit a c.args.e c.first_copy.result.now below fit)))

pub add_weight-returns-in-Join : goal.add_weight-returns-in-Join
add_weight-returns-in-Join t c =
    let a = c.args.shapes.now in
    let tree = c.fit_node.ensures.tree ∙ ap (λ n. At (place_of a c.args.e) (tree_of_node a n)) c.in-Join.is in
    let copied = c.first_copy.ensures.copy ∙ ap first_copy c.as_slice.ensures in
    c.add_parts.ensures
    ∙ ap (λ n. capped (c.args.total + n)) (ap (λ (ps : List ℕ). own_weights (map (tree_of a) ps)) copied ∙ sym (joined_weight (map (tree_of a) (first_copy c.in-Join.parts))) ∙ ap (λ e. weight e c.args.w) (sym tree))

pub add_arguments-loop-k-preserved : goal.add_arguments-loop-k-preserved
add_arguments-loop-k-preserved t c =
    let at = slice_get_read c.args.inputs.now (length c.args.inputs.now) c.loop-k.k c.index-inputs-k.result refl (omega (arith, c.loop-k-test.true, c.requires.as_many)) c.index-inputs-k.is in
    let step = argument_step (tree_of c.args.shapes.now) c.args.arguments.now c.args.inputs.now c.loop-k.k c.loop-k.sum c.add_argument-sum.result c.index-inputs-k.result c.loop-k-test.true at c.add_argument-sum.ensures in
    (step ∙ c.loop-k.invariant.0, omega (arith, c.add_argument-sum.ensures))

pub add_arguments-returns : goal.add_arguments-returns
add_arguments-returns t c =
    let none = arguments_done (tree_of c.args.shapes.now) c.args.arguments.now (signals_from 0 c.args.inputs.now) c.loop-k.k (omega (arith, c.loop-k-test.false)) (omega (arith, c.loop-k-test.false, c.requires.as_many, inputs_count c.args.inputs.now)) in
    omega (arith, c.loop-k.invariant.0, c.loop-k.invariant.1, none)

pub add_parts-returns : goal.add_parts-returns
add_parts-returns t c =
    let none = ap (λ (ps : List ℕ). own_weights (map (tree_of c.args.shapes.now) ps)) (drop_none c.args.parts.now c.loop-part.part-index c.loop-part-test.false) in
    omega (arith, c.loop-part.invariant.0, c.loop-part.invariant.1, none)

pub add_weight-inputs_of-inputs-requires-clause-function : goal.add_weight-inputs_of-inputs-requires-clause-function
add_weight-inputs_of-inputs-requires-clause-function t c = subst (HasCalls c.args.shapes.now) c.in-Call.is c.fit_node.ensures.calls

pub add_weight-add_arguments-sum-requires : goal.add_weight-add_arguments-sum-requires
add_weight-add_arguments-sum-requires t c =
    let a = c.args.shapes.now in
    let e = c.args.e in
    let names = subst (HasNames (length a.signals) e) c.in-Call.is c.fit_node.ensures.names in
    let parts = subst (λ (n : Node). FitParts (tree_of_node a n)) c.in-Call.is c.fit_node.ensures.parts in
    let each = subst (λ (ps : List ℕ). EachFits a e ps) (sym c.as_slice-in-Call-2.ensures) (λ k inside. (names k inside, each_item (tree_of a) c.in-Call.arguments k parts.2 inside)) in
    let many = ap length (c.as_slice-in-Call-2.ensures ∙ sym c.as_slice-in-Call.ensures) ∙ c.inputs_of-inputs.ensures.as_many in
    (omega arith, (c.requires.table, (omega (arith, c.requires.there), (each, (many, c.inputs_of-inputs.ensures.short)))))

pub add_weight-returns-in-Call : goal.add_weight-returns-in-Call
add_weight-returns-in-Call t c =
    let a = c.args.shapes.now in
    let f = callee_of a (tree_of a) c.in-Call.function in
    let arguments = map (tree_of a) c.in-Call.arguments in
    let tree = c.fit_node.ensures.tree ∙ ap (λ n. At (place_of a c.args.e) (tree_of_node a n)) c.in-Call.is in
    let parts = subst (λ (n : Node). FitParts (tree_of_node a n)) c.in-Call.is c.fit_node.ensures.parts in
    let first : c.in-Call.function < length c.args.table.now = subst (CallsFirst (length c.args.table.now)) c.in-Call.is c.fit_node.ensures.first in
    let whole : weight (tree_of a c.args.e) c.args.w ≡ call_inputs arguments f.header.inputs + statement_weight f.statement = ap (λ e. weight e c.args.w) tree in
    let inputs : c.add_arguments-sum.result ≡ capped (c.args.total + call_inputs arguments f.header.inputs) =
    c.add_arguments-sum.ensures ∙ ap₂ (λ (ps : List ℕ) (ss : List Signal). capped (c.args.total + call_inputs (map (tree_of a) ps) ss)) c.as_slice-in-Call-2.ensures (sym c.inputs_of-inputs.ensures.inputs)
    in
    let body : c.callee_weight.result ≡ capped (statement_weight f.statement) =
    c.callee_weight.ensures ∙ weighed f.statement _ (weight_of_callee a c.args.table.now c.requires.table c.in-Call.function first) parts.3
    in
    omega (arith, c.plus.ensures, whole, inputs, body)

pub add_select-returns : goal.add_select-returns
add_select-returns t c =
    let a = c.args.shapes.now in
    let index = tree_of a c.args.index in
    let room = range_length c.args.range in
    let own = c.times-own.ensures ∙ ap (λ n. capped (c.args.width * n)) (c.times.ensures ∙ ap₂ (λ m n. capped (m * n)) c.length.ensures c.as_operand-x.ensures.width) ∙ times_capped c.args.width (room * width index) in
    own_added (is_constant index) c.args.total (c.args.width * (room * width index)) (weight index (width index)) c.add_weight.result (sym c.as_operand-x.ensures.constant ∙ c.if-x.false)
    (c.add_weight.ensures ∙ ap₂ (λ n w. capped (n + weight index w)) (c.plus.ensures ∙ ap (λ n. capped (c.args.total + n)) own) c.as_operand-x.ensures.width)
