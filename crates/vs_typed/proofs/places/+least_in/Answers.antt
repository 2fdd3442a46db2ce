use Rattle.std.proofs.Common.{◌≡◌, ◌<◌, ◌*◌, ℕ, List, length, map, sym, ap, ◌∙◌, subst}
use Rattle.vs_design.specs.Expressions as E
use Rattle.vs_flat.specs.declared.expressions.Node.TheVariants as N
use Rattle.vs_flat.specs.Trees.{joined, first_copy, copy_count}
use Rattle.vs_shape.specs.Nodes.{tree_of, place_of, tree_of_node}
use Rattle.vs_flat.specs.DesignOf.{callee_of}
use Rattle.vs_typed.specs.Places.{least_from, item_places, part_places, places_of}
use Rattle.vs_typed.specs.Reach.{CallsFirst}
use Rattle.vs_typed.proofs.CalleeSteps.{call_done, least_of_callee}
use Rattle.vs_typed.proofs.FoundSteps.{item_step}
use Rattle.vs_typed.proofs.LeastSteps.{from_none, from_append, two_more, node_done, part_step, joined_places, copies_absorb, some_copies, more_copies, drop_none}
use Rattle.vs_typed.proofs.places.+least_in.Goals as goal

pub loop-part-preserved : goal.loop-part-preserved
loop-part-preserved t c at =
    part_step c.args.rule at (tree_of c.args.shapes.now) c.first_copy-part-items.result.now c.loop-part.part-index c.loop-part.least c.least_in-least-in-loop-part.result c.loop-part-test.true (c.least_in-least-in-loop-part.ensures at) ∙ c.loop-part.invariant at

pub returns-in-Literal : goal.returns-in-Literal
returns-in-Literal t c at =
    let a = c.args.shapes.now in
    let rule = c.args.rule in
    let place = place_of a c.args.e in
    let head = c.least_head-least.result in
    let x = tree_of_node a (N.Literal c.in-Literal.bits c.in-Literal.signed c.in-Literal.sized) in
    let tree : tree_of a c.args.e ≡ E.At place x = c.node_in-node.ensures.tree ∙ ap (λ n. E.At place (tree_of_node a n)) c.in-Literal.is in
    node_done rule at place c.args.best head _ (tree_of a c.args.e) x tree tt (c.least_head-least.ensures x tree) (sym (from_none head))

pub returns-in-Name : goal.returns-in-Name
returns-in-Name t c at =
    let a = c.args.shapes.now in
    let rule = c.args.rule in
    let place = place_of a c.args.e in
    let head = c.least_head-least.result in
    let x = tree_of_node a (N.Name c.in-Name.signal) in
    let tree : tree_of a c.args.e ≡ E.At place x = c.node_in-node.ensures.tree ∙ ap (λ n. E.At place (tree_of_node a n)) c.in-Name.is in
    node_done rule at place c.args.best head _ (tree_of a c.args.e) x tree tt (c.least_head-least.ensures x tree) (sym (from_none head))

pub returns-in-Local : goal.returns-in-Local
returns-in-Local t c at =
    let a = c.args.shapes.now in
    let rule = c.args.rule in
    let place = place_of a c.args.e in
    let head = c.least_head-least.result in
    let x = tree_of_node a (N.Local c.in-Local.function c.in-Local.signal) in
    let tree : tree_of a c.args.e ≡ E.At place x = c.node_in-node.ensures.tree ∙ ap (λ n. E.At place (tree_of_node a n)) c.in-Local.is in
    node_done rule at place c.args.best head _ (tree_of a c.args.e) x tree tt (c.least_head-least.ensures x tree) (sym (from_none head))

pub returns-in-Bit : goal.returns-in-Bit
returns-in-Bit t c at =
    let a = c.args.shapes.now in
    let rule = c.args.rule in
    let place = place_of a c.args.e in
    let head = c.least_head-least.result in
    let x = tree_of_node a (N.Bit c.in-Bit.of c.in-Bit.range c.in-Bit.index) in
    let tree : tree_of a c.args.e ≡ E.At place x = c.node_in-node.ensures.tree ∙ ap (λ n. E.At place (tree_of_node a n)) c.in-Bit.is in
    node_done rule at place c.args.best head _ (tree_of a c.args.e) x tree tt (c.least_head-least.ensures x tree) (c.least_in.ensures place)

pub returns-in-Part : goal.returns-in-Part
returns-in-Part t c at =
    let a = c.args.shapes.now in
    let rule = c.args.rule in
    let place = place_of a c.args.e in
    let head = c.least_head-least.result in
    let x = tree_of_node a (N.Part c.in-Part.of c.in-Part.range c.in-Part.base c.in-Part.up c.in-Part.width) in
    let tree : tree_of a c.args.e ≡ E.At place x = c.node_in-node.ensures.tree ∙ ap (λ n. E.At place (tree_of_node a n)) c.in-Part.is in
    node_done rule at place c.args.best head _ (tree_of a c.args.e) x tree tt (c.least_head-least.ensures x tree) (c.least_in-in-Part.ensures place)

pub returns-in-Word : goal.returns-in-Word
returns-in-Word t c at =
    let a = c.args.shapes.now in
    let rule = c.args.rule in
    let place = place_of a c.args.e in
    let head = c.least_head-least.result in
    let x = tree_of_node a (N.Word c.in-Word.signal c.in-Word.index) in
    let tree : tree_of a c.args.e ≡ E.At place x = c.node_in-node.ensures.tree ∙ ap (λ n. E.At place (tree_of_node a n)) c.in-Word.is in
    node_done rule at place c.args.best head _ (tree_of a c.args.e) x tree tt (c.least_head-least.ensures x tree) (c.least_in-in-Word.ensures place)

pub returns-in-Unary : goal.returns-in-Unary
returns-in-Unary t c at =
    let a = c.args.shapes.now in
    let rule = c.args.rule in
    let place = place_of a c.args.e in
    let head = c.least_head-least.result in
    let x = tree_of_node a (N.Unary c.in-Unary.op c.in-Unary.a) in
    let tree : tree_of a c.args.e ≡ E.At place x = c.node_in-node.ensures.tree ∙ ap (λ n. E.At place (tree_of_node a n)) c.in-Unary.is in
    node_done rule at place c.args.best head _ (tree_of a c.args.e) x tree tt (c.least_head-least.ensures x tree) (c.least_in-in-Unary.ensures place)

pub returns-in-Binary : goal.returns-in-Binary
returns-in-Binary t c at =
    let a = c.args.shapes.now in
    let rule = c.args.rule in
    let place = place_of a c.args.e in
    let head = c.least_head-least.result in
    let x = tree_of_node a (N.Binary c.in-Binary.op c.in-Binary.a c.in-Binary.b) in
    let tree : tree_of a c.args.e ≡ E.At place x = c.node_in-node.ensures.tree ∙ ap (λ n. E.At place (tree_of_node a n)) c.in-Binary.is in
    node_done rule at place c.args.best head _ (tree_of a c.args.e) x tree tt (c.least_head-least.ensures x tree) (c.least_in-in-Binary.ensures place ∙ ap (λ b. least_from b (places_of rule place (tree_of a c.in-Binary.b))) (c.least_in-least.ensures place) ∙ sym (from_append head (places_of rule place (tree_of a c.in-Binary.a)) (places_of rule place (tree_of a c.in-Binary.b))))

pub returns-in-Choice : goal.returns-in-Choice
returns-in-Choice t c at =
    let a = c.args.shapes.now in
    let rule = c.args.rule in
    let place = place_of a c.args.e in
    let head = c.least_head-least.result in
    let x = tree_of_node a (N.Choice c.in-Choice.c c.in-Choice.p c.in-Choice.q) in
    let tree : tree_of a c.args.e ≡ E.At place x = c.node_in-node.ensures.tree ∙ ap (λ n. E.At place (tree_of_node a n)) c.in-Choice.is in
    node_done rule at place c.args.best head _ (tree_of a c.args.e) x tree tt (c.least_head-least.ensures x tree) (c.least_in-in-Choice.ensures place
    ∙ ap (λ b. least_from b (places_of rule place (tree_of a c.in-Choice.q))) (c.least_in-least-in-Choice-2.ensures place ∙ ap (λ b. least_from b (places_of rule place (tree_of a c.in-Choice.p))) (c.least_in-least-in-Choice.ensures place))
    ∙ two_more head (places_of rule place (tree_of a c.in-Choice.c)) (places_of rule place (tree_of a c.in-Choice.p)) (places_of rule place (tree_of a c.in-Choice.q)))

pub returns-after-loop-part : goal.returns-after-loop-part
returns-after-loop-part t c at =
    let a = c.args.shapes.now in
    let rule = c.args.rule in
    let place = place_of a c.args.e in
    let head = c.least_head-least.result in
    let parts = c.in-Join.parts in
    let copy = c.first_copy-part-items.result.now in
    let copied = c.first_copy-part-items.ensures.copy ∙ ap first_copy c.as_slice.ensures in
    let es = map (tree_of a) (first_copy parts) in
    let x = tree_of_node a (N.Join parts) in
    let tree : tree_of a c.args.e ≡ E.At place x = c.node_in-node.ensures.tree ∙ ap (λ n. E.At place (tree_of_node a n)) c.in-Join.is in
    let head_is = c.least_head-least.ensures x tree in
    let whole =
    sym (from_none c.loop-part.least) ∙ ap (λ (ps : List ℕ). least_from c.loop-part.least (part_places rule place (map (tree_of a) ps))) (sym (drop_none copy c.loop-part.part-index c.loop-part-test.false)) ∙ c.loop-part.invariant place
    ∙ ap (λ (ps : List ℕ). least_from head (part_places rule place (map (tree_of a) ps))) copied
    ∙ sym (joined_places rule place (copy_count parts * E.width (joined es)) es head (more_copies (copy_count parts) (E.width (joined es)) (some_copies parts)) (copies_absorb rule place (copy_count parts) (joined es) c.args.best head head_is))
    in
    node_done rule at place c.args.best head _ (tree_of a c.args.e) x tree tt head_is whole

pub loop-argument-preserved : goal.loop-argument-preserved
loop-argument-preserved t c at =
    item_step c.args.rule at (tree_of c.args.shapes.now) c.as_slice-argument-items.result.now c.loop-argument.argument-index c.loop-argument.least c.least_in-least-in-loop-argument.result c.loop-argument-test.true (c.least_in-least-in-loop-argument.ensures at) ∙ c.loop-argument.invariant at

pub returns-after-loop-argument : goal.returns-after-loop-argument
returns-after-loop-argument t c at =
    let a = c.args.shapes.now in
    let rule = c.args.rule in
    let place = place_of a c.args.e in
    let head = c.least_head-least.result in
    let x = tree_of_node a (N.Call c.in-Call.function c.in-Call.arguments) in
    let tree : tree_of a c.args.e ≡ E.At place x = c.node_in-node.ensures.tree ∙ ap (λ n. E.At place (tree_of_node a n)) c.in-Call.is in
    let head_is = c.least_head-least.ensures x tree in
    let items = c.as_slice-argument-items.result.now in
    let f = callee_of a (tree_of a) c.in-Call.function in
    let first : c.in-Call.function < length c.args.table.now = subst (CallsFirst (length c.args.table.now)) c.in-Call.is c.node_in-node.ensures.first in
    let arguments =
    sym (from_none c.loop-argument.least) ∙ ap (λ (es : List ℕ). least_from c.loop-argument.least (item_places rule place (E.items_of (map (tree_of a) es)))) (sym (drop_none items c.loop-argument.argument-index c.loop-argument-test.false)) ∙ c.loop-argument.invariant place
    ∙ ap (λ (es : List ℕ). least_from head (item_places rule place (E.items_of (map (tree_of a) es)))) c.as_slice-argument-items.ensures
    in
    let whole = call_done c.places_law.ensures.items c.places_law.ensures.statements rule place (E.items_of (map (tree_of a) c.in-Call.arguments)) f.header.place f.statement head c.loop-argument.least _ _ arguments
    (least_of_callee a rule c.args.table.now c.requires.table c.in-Call.function first f.header.place) c.least_callee.ensures in
    node_done rule at place c.args.best head _ (tree_of a c.args.e) x tree tt head_is whole

pub returns-in-WordPart : goal.returns-in-WordPart
returns-in-WordPart t c at =
    let a = c.args.shapes.now in
    let rule = c.args.rule in
    let place = place_of a c.args.e in
    let head = c.least_head-least.result in
    let x = tree_of_node a (N.WordPart c.in-WordPart.signal c.in-WordPart.address c.in-WordPart.range c.in-WordPart.base c.in-WordPart.up c.in-WordPart.width) in
    let tree : tree_of a c.args.e ≡ E.At place x = c.node_in-node.ensures.tree ∙ ap (λ n. E.At place (tree_of_node a n)) c.in-WordPart.is in
    node_done rule at place c.args.best head _ (tree_of a c.args.e) x tree tt (c.least_head-least.ensures x tree)
    (c.least_in-in-WordPart.ensures place ∙ ap (λ b. least_from b (places_of rule place (tree_of a c.in-WordPart.base))) (c.least_in-least-in-WordPart.ensures place) ∙ sym (from_append head (places_of rule place (tree_of a c.in-WordPart.address)) (places_of rule place (tree_of a c.in-WordPart.base))))
