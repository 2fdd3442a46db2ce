use Rattle.std.proofs.Common.{◌≡◌, ◌-◌, ◌<◌, ℕ, List, length, take, map, refl, sym, ap, ◌∙◌, subst, arith}
use Rattle.std.proofs.lemmas.Bool.Decides.{nat_tests}
use Rattle.vs_net.specs.Network.{write_all}
use Rattle.vs_design.specs.Bodies.{target_writes}
use Rattle.vs_flat.specs.Trees.{joined}
use Rattle.vs_design.specs.Elaborated.{has_constant_selects}
use Rattle.vs_design.specs.Expressions.{At, width, is_constant}
use Rattle.vs_sets.specs.Nodes.{place_of, tree_of, tree_of_node}
use Rattle.vs_sets.specs.TargetsOf.{IsTarget, target_tree}
use Rattle.vs_zero.specs.States.{state_of, unknown}
use Rattle.vs_zero.specs.Constants.{TargetBelow}
use Rattle.vs_zero.proofs.Below.{both_below, named_below}
use Rattle.vs_zero.proofs.TargetFacts.{split_facts}
use Rattle.vs_sets.proofs.Fit.{and_left, and_right}
use Rattle.vs_sets.proofs.TargetFacts.{first_below, joined_one, rest_below}
use Rattle.vs_zero.proofs.targets.+writing.Goals as goal

pub put_parts-put-requires-2 : goal.put_parts-put-requires-2
put_parts-put-requires-2 t c =
    let parts = c.in-Some.ensures.cases in
    let some : 0 < length c.in-Some.rest.now = grind (arith, nat_tests, c.is_empty.ensures, c.if-is_empty.false) in
    let facts = split_facts (tree_of c.args.shapes.now) c.args.parts.now c.in-Some.first.now c.in-Some.rest.now c.args.value.now (length c.args.value.now - c.shape.result.width) c.shape.result.width
    parts.0 some c.requires.target c.requires.constant c.requires.many (ap (λ s. s.width) c.shape.ensures) refl in
    let before = first_below c.args.e c.args.parts.now c.in-Some.first.now c.in-Some.rest.now c.requires.before parts.0 in
    let within = both_below (tree_of c.args.shapes.now) c.args.parts.now c.in-Some.first.now c.in-Some.rest.now (length c.args.state.now) parts.0 some c.requires.target c.requires.within in
    (omega (arith, before), (within.0, (omega (arith, before), (facts.first_target, (facts.first_constant, facts.first_many)))))

pub put_parts-put_parts-requires : goal.put_parts-put_parts-requires
put_parts-put_parts-requires t c =
    let parts = c.in-Some.ensures.cases in
    let some : 0 < length c.in-Some.rest.now = grind (arith, nat_tests, c.is_empty.ensures, c.if-is_empty.false) in
    let facts = split_facts (tree_of c.args.shapes.now) c.args.parts.now c.in-Some.first.now c.in-Some.rest.now c.args.value.now (length c.args.value.now - c.shape.result.width) c.shape.result.width
    parts.0 some c.requires.target c.requires.constant c.requires.many (ap (λ s. s.width) c.shape.ensures) refl in
    let within = both_below (tree_of c.args.shapes.now) c.args.parts.now c.in-Some.first.now c.in-Some.rest.now (length c.args.state.now) parts.0 some c.requires.target c.requires.within in
    let kept = subst (λ n. TargetBelow n (target_tree (joined (map (tree_of c.args.shapes.now) c.in-Some.rest.now)))) (sym c.put-2.auto.state) within.1 in
    (omega (arith, parts.1), (kept, (c.requires.there, (rest_below c.args.e c.args.parts.now c.in-Some.first.now c.in-Some.rest.now c.requires.before parts.0, (facts.rest_target, (facts.rest_constant, facts.rest_many))))))

pub put_parts-returns : goal.put_parts-returns
put_parts-returns t c =
    let parts = c.in-Some.ensures.cases in
    let some : 0 < length c.in-Some.rest.now = grind (arith, nat_tests, c.is_empty.ensures, c.if-is_empty.false) in
    let low = length c.args.value.now - c.shape.result.width in
    let facts = split_facts (tree_of c.args.shapes.now) c.args.parts.now c.in-Some.first.now c.in-Some.rest.now c.args.value.now low c.shape.result.width
    parts.0 some c.requires.target c.requires.constant c.requires.many (ap (λ s. s.width) c.shape.ensures) refl in
    let tree = tree_of c.args.shapes.now in
    c.put_parts.ensures ∙ ap (λ s. write_all s (target_writes (target_tree (joined (map tree c.in-Some.rest.now))) (take low c.args.value.now) unknown)) c.put-2.ensures
    ∙ sym (facts.writes (state_of c.args.state.now)) ∙ ap (λ ps. write_all (state_of c.args.state.now) (target_writes (target_tree (joined (map tree ps))) c.args.value.now unknown)) (sym parts.0)

pub put-put_word-requires-clause-within : goal.put-put_word-requires-clause-within
put-put_word-requires-clause-within t c =
    let a = c.args.shapes.now in
    let tree = c.node.ensures.tree ∙ ap (λ m. At (place_of a c.args.e) (tree_of_node a m)) c.in-Word.is in
    subst (λ x. TargetBelow (length c.args.state.now) (target_tree x)) tree c.requires.within

pub put-put_run-requires : goal.put-put_run-requires
put-put_run-requires t c =
    let ends = named_below c.args.shapes.now c.args.e (length c.args.state.now) c.named_span.result.first c.node.result.now c.node.ensures.tree c.in-Name.is c.requires.target c.requires.within c.named_span.ensures.first in
    omega (arith, ends, c.requires.many)

pub put_parts-put-requires : goal.put_parts-put-requires
put_parts-put-requires t c =
    let parts = c.in-Some.ensures.cases in
    let tree = tree_of c.args.shapes.now in
    let none : length c.in-Some.rest.now ≡ 0 = grind (arith, nat_tests, c.is_empty.ensures, c.if-is_empty.true) in
    let whole = ap (λ (ps : List ℕ). joined (map tree ps)) parts.0 ∙ joined_one tree c.in-Some.first.now c.in-Some.rest.now none in
    let before = first_below c.args.e c.args.parts.now c.in-Some.first.now c.in-Some.rest.now c.requires.before parts.0 in
    (omega (arith, before), (subst (λ x. TargetBelow (length c.args.state.now) (target_tree x)) whole c.requires.within, (omega (arith, before), (subst IsTarget whole c.requires.target, (ap (λ x. has_constant_selects (target_tree x)) (sym whole) ∙ c.requires.constant, c.requires.many ∙ ap width whole)))))

pub put-put_word_part-requires-clause-within : goal.put-put_word_part-requires-clause-within
put-put_word_part-requires-clause-within t c =
    let a = c.args.shapes.now in
    let tree = c.node.ensures.tree ∙ ap (λ m. At (place_of a c.args.e) (tree_of_node a m)) c.in-WordPart.is in
    subst (λ x. TargetBelow (length c.args.state.now) (target_tree x)) tree c.requires.within

pub put-put_word_part-requires-clause-constant_address : goal.put-put_word_part-requires-clause-constant_address
put-put_word_part-requires-clause-constant_address t c =
    let a = c.args.shapes.now in
    let tree = c.node.ensures.tree ∙ ap (λ m. At (place_of a c.args.e) (tree_of_node a m)) c.in-WordPart.is in
    and_left (is_constant (tree_of a c.in-WordPart.address)) (is_constant (tree_of a c.in-WordPart.base)) (ap (λ x. has_constant_selects (target_tree x)) (sym tree) ∙ c.requires.constant)

pub put-put_word_part-requires-clause-constant : goal.put-put_word_part-requires-clause-constant
put-put_word_part-requires-clause-constant t c =
    let a = c.args.shapes.now in
    let tree = c.node.ensures.tree ∙ ap (λ m. At (place_of a c.args.e) (tree_of_node a m)) c.in-WordPart.is in
    and_right (is_constant (tree_of a c.in-WordPart.address)) (is_constant (tree_of a c.in-WordPart.base)) (ap (λ x. has_constant_selects (target_tree x)) (sym tree) ∙ c.requires.constant)
