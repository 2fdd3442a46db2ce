-- An expression goes to earlier ones, and to the statement of a function all of whose expressions are earlier; a target to earlier ones and to fewer parts; a statement to its expressions and to earlier statements. There are fewer than 2^32 statements, and a list has fewer than 2^65.
use Rattle.std.proofs.Common.{◌≡◌, ◌++◌, length, drop, map, min}
use Rattle.vs_net.specs.Network.{write_all}
use Rattle.vs_design.specs.Bodies as B
use Rattle.vs_design.specs.Expressions.{items_of}
use Rattle.vs_design.specs.Values as V
use Rattle.vs_flat.specs.Trees.{sequence}
use Rattle.vs_sets.specs.Calls.{arguments_of, function_of}
use Rattle.vs_sets.specs.Nodes.{tree_of}
use Rattle.vs_sets.specs.StatementParts.{arms_of, statement_of}
use Rattle.vs_sets.proofs.Measures.{of_expression, of_statement}
use Rattle.vs_writes.specs.Held.{state_of}
use Rattle.vs_interpret.proofs.PartValues.{parts_value}
use Rattle.vs_interpret.proofs.+evaluating.Given as goal

abbrev pub decreases-evaluator::Evaluator::put_arguments : goal.decreases-evaluator::Evaluator::put_arguments
decreases-evaluator::Evaluator::put_arguments l = of_expression l.e 0

abbrev pub decreases-evaluator::Evaluator::joined : goal.decreases-evaluator::Evaluator::joined
decreases-evaluator::Evaluator::joined l = of_expression l.e 0

abbrev pub decreases-evaluator::Evaluator::push_select : goal.decreases-evaluator::Evaluator::push_select
decreases-evaluator::Evaluator::push_select l = of_expression l.e 0

abbrev pub decreases-evaluator::Evaluator::push_word : goal.decreases-evaluator::Evaluator::push_word
decreases-evaluator::Evaluator::push_word l = of_expression l.e 0

abbrev pub decreases-evaluator::Evaluator::push_word_part : goal.decreases-evaluator::Evaluator::push_word_part
decreases-evaluator::Evaluator::push_word_part l = of_expression l.e 0

abbrev pub decreases-evaluator::Evaluator::unary : goal.decreases-evaluator::Evaluator::unary
decreases-evaluator::Evaluator::unary l = of_expression l.e 1

abbrev pub decreases-evaluator::Evaluator::binary : goal.decreases-evaluator::Evaluator::binary
decreases-evaluator::Evaluator::binary l = of_expression l.e 1

abbrev pub decreases-evaluator::Evaluator::choice : goal.decreases-evaluator::Evaluator::choice
decreases-evaluator::Evaluator::choice l = of_expression l.e 1

abbrev pub decreases-evaluator::Evaluator::run_function : goal.decreases-evaluator::Evaluator::run_function
decreases-evaluator::Evaluator::run_function l = of_expression l.e 1

abbrev pub decreases-evaluator::Evaluator::call : goal.decreases-evaluator::Evaluator::call
decreases-evaluator::Evaluator::call l = of_expression l.e 2

abbrev pub decreases-evaluator::Evaluator::node_value : goal.decreases-evaluator::Evaluator::node_value
decreases-evaluator::Evaluator::node_value l = of_expression l.e 3

abbrev pub decreases-evaluator::Evaluator::value : goal.decreases-evaluator::Evaluator::value
decreases-evaluator::Evaluator::value l = of_expression l.e 4

abbrev pub decreases-evaluator::Evaluator::own_value : goal.decreases-evaluator::Evaluator::own_value
decreases-evaluator::Evaluator::own_value l = of_expression l.e 5

abbrev pub decreases-evaluator::Evaluator::assigned_value : goal.decreases-evaluator::Evaluator::assigned_value
decreases-evaluator::Evaluator::assigned_value l = of_expression l.e 5

abbrev pub decreases-evaluator::Evaluator::push_target : goal.decreases-evaluator::Evaluator::push_target
decreases-evaluator::Evaluator::push_target l = of_expression l.e 36893488147419103231

abbrev pub decreases-evaluator::Evaluator::push_parts : goal.decreases-evaluator::Evaluator::push_parts
decreases-evaluator::Evaluator::push_parts l = of_expression l.e (min (length l.parts.now) 18446744073709551616)

abbrev pub decreases-cases::is_taken : goal.decreases-cases::is_taken
decreases-cases::is_taken l = of_statement l.nodes 0 0

abbrev pub decreases-cases::first_taken : goal.decreases-cases::first_taken
decreases-cases::first_taken l = of_statement l.nodes 0 1

abbrev pub decreases-cases::case_branch : goal.decreases-cases::case_branch
decreases-cases::case_branch l = of_statement l.nodes 0 2

abbrev pub decreases-statements::Runner::assignment_writes : goal.decreases-statements::Runner::assignment_writes
decreases-statements::Runner::assignment_writes l = of_statement l.self.now.nodes 0 0

abbrev pub decreases-statements::Runner::assign : goal.decreases-statements::Runner::assign
decreases-statements::Runner::assign l = of_statement l.self.now.nodes 0 1

abbrev pub decreases-statements::Runner::run : goal.decreases-statements::Runner::run
decreases-statements::Runner::run l = of_statement l.self.now.nodes l.s 36893488147419103231

abbrev pub decreases-statements::Runner::run_all : goal.decreases-statements::Runner::run_all
decreases-statements::Runner::run_all l = of_statement l.self.now.nodes l.s 0

abbrev pub decreases-statements::Runner::run_branch : goal.decreases-statements::Runner::run_branch
decreases-statements::Runner::run_branch l = of_statement l.self.now.nodes l.s 0

-- the parts so far, with those that are left
abbrev pub invariant-evaluator::Evaluator::joined-loop-n : goal.invariant-evaluator::Evaluator::joined-loop-n
invariant-evaluator::Evaluator::joined-loop-n l =
    let state = state_of l.self.values.now in
    let tree = tree_of l.self.shapes.now in
    parts_value state (map tree (drop l.n l.parts)) ++ l.whole ≡ parts_value state (map tree l.parts)

-- with the arguments that are left
abbrev pub invariant-evaluator::Evaluator::put_arguments-loop-n : goal.invariant-evaluator::Evaluator::put_arguments-loop-n
invariant-evaluator::Evaluator::put_arguments-loop-n l =
    let a = l.self.shapes.now in
    let state = state_of l.self.values.now in
    let inputs = (function_of a l.function).header.inputs in
    V.argument_state (arguments_of a (drop l.n l.arguments)) (drop l.n inputs) state (state_of l.local) ≡ V.argument_state (arguments_of a l.arguments) inputs state (state_of l.initial.local)

abbrev pub invariant-cases::is_taken-loop-item : goal.invariant-cases::is_taken-loop-item
invariant-cases::is_taken-loop-item l =
    let tree = tree_of l.evaluator.shapes.now in
    let state = state_of l.evaluator.values.now in
    B.is_taken l.kind l.context.width l.context.signed l.subject (items_of (map tree (drop l.item-index l.items))) state ≡ B.is_taken l.kind l.context.width l.context.signed l.subject (items_of (map tree l.items)) state

abbrev pub invariant-cases::first_taken-loop-arm : goal.invariant-cases::first_taken-loop-arm
invariant-cases::first_taken-loop-arm l =
    let a = l.evaluator.shapes.now in
    let state = state_of l.evaluator.values.now in
    B.arms_body (arms_of a l.other (drop l.arm-index l.arms)) l.kind l.context.width l.context.signed l.subject state ≡ B.arms_body (arms_of a l.other l.arms) l.kind l.context.width l.context.signed l.subject state

-- what was done, with what the statements that are left do
abbrev pub invariant-statements::Runner::run_all-loop-part : goal.invariant-statements::Runner::run_all-loop-part
invariant-statements::Runner::run_all-loop-part l =
    let left = B.body (sequence (map (statement_of l.self.shapes.now) (drop l.part-index l.parts))) (state_of l.values) in
    let all = B.body (sequence (map (statement_of l.self.shapes.now) l.parts)) (state_of l.initial.values) in
    record {
      effect : B.both_effects l.done left ≡ B.both_effects l.initial.done all;
      state : write_all (state_of l.values) left.writes ≡ write_all (state_of l.initial.values) all.writes;
    }
