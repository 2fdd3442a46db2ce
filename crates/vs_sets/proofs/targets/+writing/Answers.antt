use Rattle.std.proofs.Common.{◌≡◌, ◌-◌, ◌<◌, length, take, map, true, refl, sym, ap, ◌∙◌, subst, arith}
use Rattle.vs_design.specs.Within.{target_within}
use Rattle.std.proofs.lemmas.Bool.Decides.{nat_tests}
use Rattle.vs_flat.specs.Trees.{joined}
use Rattle.vs_design.specs.LiftedBodies.{write_sets}
use Rattle.vs_sets.specs.Nodes.{tree_of}
use Rattle.vs_sets.specs.Tables.{family_of}
use Rattle.vs_sets.specs.TargetsOf.{target_tree}
use Rattle.vs_sets.proofs.TargetFacts.{both_within, split_facts, first_below, rest_below}
use Rattle.vs_sets.proofs.targets.+writing.Goals as goal

pub write_parts-write-requires-2 : goal.write_parts-write-requires-2
write_parts-write-requires-2 t c =
    let parts = c.in-Some.ensures.cases in
    let some : 0 < length c.in-Some.rest.now = grind (arith, nat_tests, c.is_empty.ensures, c.if-is_empty.false) in
    let facts = split_facts (tree_of c.args.shapes.now) c.args.parts.now c.in-Some.first.now c.in-Some.rest.now c.args.sets.now (length c.args.sets.now - c.shape.result.width) c.shape.result.width
    parts.0 some c.requires.target c.requires.many (ap (λ s. s.width) c.shape.ensures) refl in
    let before = first_below c.args.e c.args.parts.now c.in-Some.first.now c.in-Some.rest.now c.requires.before parts.0 in
    let within = both_within (tree_of c.args.shapes.now) c.args.parts.now c.in-Some.first.now c.in-Some.rest.now (length c.args.table.now) parts.0 some c.requires.target c.requires.within in
    (omega (arith, before), (within.0, (omega (arith, before), (facts.first_target, facts.first_many))))

pub write_parts-write_parts-requires : goal.write_parts-write_parts-requires
write_parts-write_parts-requires t c =
    let parts = c.in-Some.ensures.cases in
    let some : 0 < length c.in-Some.rest.now = grind (arith, nat_tests, c.is_empty.ensures, c.if-is_empty.false) in
    let facts = split_facts (tree_of c.args.shapes.now) c.args.parts.now c.in-Some.first.now c.in-Some.rest.now c.args.sets.now (length c.args.sets.now - c.shape.result.width) c.shape.result.width
    parts.0 some c.requires.target c.requires.many (ap (λ s. s.width) c.shape.ensures) refl in
    let within = both_within (tree_of c.args.shapes.now) c.args.parts.now c.in-Some.first.now c.in-Some.rest.now (length c.args.table.now) parts.0 some c.requires.target c.requires.within in
    let kept = subst (λ n. target_within n (target_tree (joined (map (tree_of c.args.shapes.now) c.in-Some.rest.now))) ≡ true) (sym c.write-2.auto.table) within.1 in
    (omega (arith, parts.1), (kept, (c.requires.there, (rest_below c.args.e c.args.parts.now c.in-Some.first.now c.in-Some.rest.now c.requires.before parts.0, (facts.rest_target, facts.rest_many)))))

pub write_parts-returns : goal.write_parts-returns
write_parts-returns t c =
    let parts = c.in-Some.ensures.cases in
    let some : 0 < length c.in-Some.rest.now = grind (arith, nat_tests, c.is_empty.ensures, c.if-is_empty.false) in
    let facts = split_facts (tree_of c.args.shapes.now) c.args.parts.now c.in-Some.first.now c.in-Some.rest.now c.args.sets.now (length c.args.sets.now - c.shape.result.width) c.shape.result.width
    parts.0 some c.requires.target c.requires.many (ap (λ s. s.width) c.shape.ensures) refl in
    let tree = tree_of c.args.shapes.now in
    c.write_parts.ensures ∙ ap (λ g. write_sets (target_tree (joined (map tree c.in-Some.rest.now))) (take (length c.args.sets.now - c.shape.result.width) c.args.sets.now) g) c.write-2.ensures
    ∙ sym (facts.writes (family_of c.args.table.now)) ∙ ap (λ ps. write_sets (target_tree (joined (map tree ps))) c.args.sets.now (family_of c.args.table.now)) (sym parts.0)
