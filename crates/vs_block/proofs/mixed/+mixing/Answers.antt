use Rattle.std.proofs.Common.{◌++◌, ℕ, List, map, take, get_or, false, sym, ap, ◌∙◌, subst, arith, append_assoc}
use Rattle.std.proofs.lemmas.Grind.{get_or_default_zero}
use Rattle.vs_design.specs.Refusals.{least}
use Rattle.vs_design.specs.Rules.{mixed_in}
use Rattle.vs_flat.specs.Trees.{branch}
use Rattle.vs_flat.specs.declared.statements.Arm.{Arm}
use Rattle.vs_shape.specs.Nodes.{tree_of}
use Rattle.vs_shape.specs.Bodies.{body_of, body_of_statement}
use Rattle.vs_block.specs.Mixed.{mixed_of}
use Rattle.vs_block.specs.Parts.{AreArms, HasParts}
use Rattle.vs_block.proofs.Mixing.{more_mixed, mixed_sequence, mixed_arms}
use Rattle.vs_block.proofs.mixed.+mixing.Goals as goal

pub least_in_arms-loop-arm-preserved : goal.least_in_arms-loop-arm-preserved
least_in_arms-loop-arm-preserved t c places h =
    let f = λ (arm : Arm). body_of c.args.shapes.now arm.statement in
    c.least_mixed-so_far.ensures (places ++ mixed_of (map f (take c.loop-arm.arm-index c.args.arms.now))) (c.loop-arm.invariant places h)
    ∙ ap least (more_mixed f c.args.arms.now c.loop-arm.arm-index c.arm-item.result places c.loop-arm-test.true c.arm-item.is)

pub least_in_parts-loop-part-preserved : goal.least_in_parts-loop-part-preserved
least_in_parts-loop-part-preserved t c places h =
    let f = body_of c.args.shapes.now in
    c.least_mixed-so_far.ensures (places ++ mixed_of (map f (take c.loop-part.part-index c.args.parts.now))) (c.loop-part.invariant places h)
    ∙ ap least (more_mixed f c.args.parts.now c.loop-part.part-index (get_or c.args.parts.now c.loop-part.part-index 0) places c.loop-part-test.true
    (sym (get_or_default_zero c.args.parts.now c.loop-part.part-index (get_or c.args.parts.now c.loop-part.part-index 0) c.loop-part-test.true)))

pub least_mixed-least_in_arms-taken-requires : goal.least_mixed-least_in_arms-taken-requires
least_mixed-least_in_arms-taken-requires t c =
    let parts = subst (HasParts c.args.shapes.now c.args.s) c.in-Case.is c.statement_of-place.ensures.parts in
    (omega arith, (omega (arith, c.requires.there), subst (AreArms c.args.shapes.now c.args.s) (sym c.as_slice.ensures) parts.1))

pub least_mixed-returns-in-If : goal.least_mixed-returns-in-If
least_mixed-returns-in-If t c places h =
    let a = c.args.shapes.now in
    let tree = c.statement_of-place.ensures.tree ∙ ap (body_of_statement a c.statement_of-place.result.1) c.in-If.is in
    let yes = mixed_in false (body_of a c.in-If.yes) in
    c.least_in_branch.ensures (places ++ yes) (c.least_mixed-taken.ensures places h)
    ∙ ap least (append_assoc places yes (mixed_in false (branch (body_of a) c.in-If.no)) ∙ ap (λ st. places ++ mixed_in false st) (sym tree))

pub least_mixed-returns-in-Case : goal.least_mixed-returns-in-Case
least_mixed-returns-in-Case t c places h =
    let a = c.args.shapes.now in
    let tree = c.statement_of-place.ensures.tree ∙ ap (body_of_statement a c.statement_of-place.result.1) c.in-Case.is in
    let f = λ (arm : Arm). body_of a arm.statement in
    let other = mixed_in false (branch (body_of a) c.in-Case.other) in
    c.least_in_branch-in-Case.ensures (places ++ mixed_of (map f c.as_slice.result.now)) (c.least_in_arms-taken.ensures places h)
    ∙ ap least
    (ap (λ (xs : List Arm). (places ++ mixed_of (map f xs)) ++ other) c.as_slice.ensures
    ∙ append_assoc places (mixed_of (map f c.in-Case.arms)) other
    ∙ ap (λ zs. places ++ zs) (sym (mixed_arms (tree_of a) (body_of a) c.in-Case.other c.in-Case.arms))
    ∙ ap (λ st. places ++ mixed_in false st) (sym tree))

pub least_mixed-returns-in-Seq : goal.least_mixed-returns-in-Seq
least_mixed-returns-in-Seq t c places h =
    let a = c.args.shapes.now in
    let tree = c.statement_of-place.ensures.tree ∙ ap (body_of_statement a c.statement_of-place.result.1) c.in-Seq.is in
    c.least_in_parts.ensures places h
    ∙ ap least
    (ap (λ (xs : List ℕ). places ++ mixed_of (map (body_of a) xs)) c.as_slice-in-Seq.ensures ∙ ap (λ zs. places ++ zs) (sym (mixed_sequence (map (body_of a) c.in-Seq.parts))) ∙ ap (λ st. places ++ mixed_in false st) (sym tree))
