-- An expression goes to earlier ones, and to the statement of a function all of whose expressions are earlier; a statement to its expressions, to earlier statements or to fewer branches. There are fewer than 2^32 statements, and a list has fewer than 2^65.
use Rattle.std.proofs.Common.{◌≡◌, ◌≤◌, ◌++◌, ℕ, length, drop, map}
use Rattle.std.specs.Prelude.{◌||◌, All}
use Rattle.std.specs.List.{list_any}
use Rattle.vs_design.specs.Expressions.{items_of}
use Rattle.vs_design.specs.Lifted as L
use Rattle.vs_design.specs.LiftedBodies.{item_sets, lifted_body}
use Rattle.vs_design.specs.Sets.{Set4, is_only_one}
use Rattle.vs_design.specs.Sleepers.{at_once, arms_at_once}
use Rattle.vs_design.specs.Statements.{Statement}
use Rattle.vs_flat.specs.Trees.{arms_tree, sequence}
use Rattle.vs_sets.specs.Branches.{taken_arms}
use Rattle.vs_sets.specs.Calls.{arguments_of, function_of}
use Rattle.vs_sets.specs.Matches.{IsOneOf, branches_of}
use Rattle.vs_sets.specs.Nodes.{tree_of}
use Rattle.vs_sets.specs.PartSets.{part_sets}
use Rattle.vs_sets.specs.Completing.{done}
use Rattle.vs_sets.specs.Tables.{family_of}
use Rattle.vs_sets.proofs.Measures.{of_expression, of_statement}
use Rattle.vs_sets.proofs.+lifting.Given as goal

abbrev pub decreases-lifter::Lifter::put_arguments : goal.decreases-lifter::Lifter::put_arguments
decreases-lifter::Lifter::put_arguments l = of_expression l.e 0

abbrev pub decreases-lifter::Lifter::parts : goal.decreases-lifter::Lifter::parts
decreases-lifter::Lifter::parts l = of_expression l.e 0

abbrev pub decreases-lifter::Lifter::operands : goal.decreases-lifter::Lifter::operands
decreases-lifter::Lifter::operands l = of_expression l.e 0

abbrev pub decreases-lifter::Lifter::run_function : goal.decreases-lifter::Lifter::run_function
decreases-lifter::Lifter::run_function l = of_expression l.e 1

abbrev pub decreases-lifter::Lifter::call : goal.decreases-lifter::Lifter::call
decreases-lifter::Lifter::call l = of_expression l.e 2

abbrev pub decreases-lifter::Lifter::choice : goal.decreases-lifter::Lifter::choice
decreases-lifter::Lifter::choice l = of_expression l.e 1

abbrev pub decreases-lifter::Lifter::unary : goal.decreases-lifter::Lifter::unary
decreases-lifter::Lifter::unary l = of_expression l.e 1

abbrev pub decreases-lifter::Lifter::lifted_node : goal.decreases-lifter::Lifter::lifted_node
decreases-lifter::Lifter::lifted_node l = of_expression l.e 3

abbrev pub decreases-lifter::Lifter::lifted : goal.decreases-lifter::Lifter::lifted
decreases-lifter::Lifter::lifted l = of_expression l.e 4

abbrev pub decreases-lifter::Lifter::assigned : goal.decreases-lifter::Lifter::assigned
decreases-lifter::Lifter::assigned l = of_expression l.e 5

abbrev pub decreases-targets::assign : goal.decreases-targets::assign
decreases-targets::assign l = of_expression l.e 6

abbrev pub decreases-cases::match_items : goal.decreases-cases::match_items
decreases-cases::match_items l = of_statement l.nodes 0 0

abbrev pub decreases-cases::taken_arms : goal.decreases-cases::taken_arms
decreases-cases::taken_arms l = of_statement l.nodes 0 1

abbrev pub decreases-cases::case_branches : goal.decreases-cases::case_branches
decreases-cases::case_branches l = of_statement l.nodes 0 2

abbrev pub decreases-bodies::Runner::run : goal.decreases-bodies::Runner::run
decreases-bodies::Runner::run l = of_statement l.self.now.nodes l.s 36893488147419103231

abbrev pub decreases-bodies::Runner::run_all : goal.decreases-bodies::Runner::run_all
decreases-bodies::Runner::run_all l = of_statement l.self.now.nodes l.s 0

abbrev pub decreases-bodies::Runner::run_branch : goal.decreases-bodies::Runner::run_branch
decreases-bodies::Runner::run_branch l = of_statement l.self.now.nodes l.s 0

abbrev pub decreases-bodies::Runner::join : goal.decreases-bodies::Runner::join
decreases-bodies::Runner::join l = of_statement l.self.now.nodes l.s (length l.branches.now)

abbrev pub invariant-lifter::Lifter::parts-loop-n : goal.invariant-lifter::Lifter::parts-loop-n
invariant-lifter::Lifter::parts-loop-n l = record {
  within : l.n ≤ length l.parts;
  rest : l.list ≡ part_sets (drop l.n (map (tree_of l.self.shapes.now) l.parts)) (family_of l.self.table.now);
}

abbrev pub decreases-lifter::Lifter::parts-loop-n : goal.decreases-lifter::Lifter::parts-loop-n
decreases-lifter::Lifter::parts-loop-n l = l.n

-- with the arguments that are left
abbrev pub invariant-lifter::Lifter::put_arguments-loop-n : goal.invariant-lifter::Lifter::put_arguments-loop-n
invariant-lifter::Lifter::put_arguments-loop-n l =
    let a = l.self.shapes.now in
    let inputs = (function_of a l.function).header.inputs in
    L.argument_sets (arguments_of a (drop l.n l.arguments)) (drop l.n inputs) (family_of l.self.table.now) (family_of l.local)
    ≡ L.argument_sets (arguments_of a l.arguments) inputs (family_of l.self.table.now) (family_of l.initial.local)

abbrev pub invariant-cases::match_items-loop-item : goal.invariant-cases::match_items-loop-item
invariant-cases::match_items-loop-item l =
    let tree = tree_of l.lifter.shapes.now in
    let f = family_of l.lifter.table.now in
    record {
      sure : (l.found.sure || list_any is_only_one (item_sets l.kind l.context.width l.context.signed l.subject (items_of (map tree (drop l.item-index l.items))) f))
          ≡ list_any is_only_one (item_sets l.kind l.context.width l.context.signed l.subject (items_of (map tree l.items)) f);
      may : (l.found.may || list_any (λ (m : Set4). m.one?) (item_sets l.kind l.context.width l.context.signed l.subject (items_of (map tree (drop l.item-index l.items))) f))
          ≡ list_any (λ (m : Set4). m.one?) (item_sets l.kind l.context.width l.context.signed l.subject (items_of (map tree l.items)) f);
    }

abbrev pub invariant-cases::taken_arms-loop-arm : goal.invariant-cases::taken_arms-loop-arm
invariant-cases::taken_arms-loop-arm l =
    let a = l.lifter.shapes.now in
    let f = family_of l.lifter.table.now in
    record {
      from : All (IsOneOf l.arms l.other) l.taken.items;
      taken : (st : ℕ → Statement) → branches_of st l.taken.items ++ taken_arms (arms_at_once (arms_tree (tree_of a) st l.other (drop l.arm-index l.arms))) l.kind l.context.width l.context.signed l.subject f
          ≡ taken_arms (arms_at_once (arms_tree (tree_of a) st l.other l.arms)) l.kind l.context.width l.context.signed l.subject f;
    }

abbrev pub invariant-bodies::Runner::run_all-loop-part : goal.invariant-bodies::Runner::run_all-loop-part
invariant-bodies::Runner::run_all-loop-part l =
    let st = done l.self.defaults.now.complete l.self.shapes.now in
    lifted_body (at_once (sequence (map st (drop l.part-index l.parts)))) (family_of l.table) ≡ lifted_body (at_once (sequence (map st l.parts))) (family_of l.initial.table)
