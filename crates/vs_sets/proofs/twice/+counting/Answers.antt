use Rattle.std.specs.Prelude.{◌||◌, ◌&&◌}
use Rattle.std.proofs.Common.{◌++◌, ℕ, length, sym, ap, ap₂, ◌∙◌, refl, subst, arith}
use Rattle.std.proofs.lemmas.Bool.Decides.{nat_tests}
use Rattle.std.proofs.lemmas.List.{take-append-drop}
use Rattle.vs_design.specs.Fits.{fits_statement}
use Rattle.vs_design.specs.Footprints.{contains, statement_bits}
use Rattle.vs_flat.specs.declared.statements.Statement.{Statement}
use Rattle.vs_flat.specs.declared.statements.Arm.{Arm}
use Rattle.std.specs.Prelude.{List}
use Rattle.vs_sets.specs.Nodes.{tree_of}
use Rattle.vs_sets.specs.StatementParts.{HasStatementNames, FitStatement, statement_of, statement_of_node, place_of_statement, arms_of}
use Rattle.vs_sets.specs.Twice.{PartsFit, ArmsFit, is_twice, is_twice_in, in_order}
use Rattle.vs_sets.proofs.TwiceSteps.{on_ok, adds_same, adds_two, one_part, halves_twice, arms_added, case_fit, parts_fit}
use Rattle.vs_sets.proofs.twice.+counting.Goals as goal

pub push_all-returns-then-parts-eq1 : goal.push_all-returns-then-parts-eq1
push_all-returns-then-parts-eq1 t c =
    on_ok c.push_twice.result c.push_twice.ensures (adds_same _ _ _ _ (one_part (statement_of c.args.shapes.now) c.args.parts.now (grind (arith, nat_tests, c.if-parts-eq1.true))))

pub push_all-returns : goal.push_all-returns
push_all-returns t c =
    let a = c.args.shapes.now in
    let left = c.split_at.result.0.now in
    let right = c.split_at.result.1.now in
    let all = c.args.parts.now in
    let x = c.args.out.now.items in
    let y = c.push_all.new.out.items in
    let z = c.push_all-2.new.out.items in
    on_ok c.push_overlap.result c.push_overlap.ensures
    (λ last. adds_two (λ b. is_twice (in_order a left) b || is_twice (in_order a right) b) (λ b. contains (statement_bits (in_order a left)) b && contains (statement_bits (in_order a right)) b) (is_twice (in_order a all)) x z c.push_overlap.new.out.items
    (λ b. halves_twice (statement_of a) all left right b (ap₂ ◌++◌ c.split_at.ensures.front c.split_at.ensures.back ∙ take-append-drop _ all))
    (adds_two (is_twice (in_order a left)) (is_twice (in_order a right)) (λ b. is_twice (in_order a left) b || is_twice (in_order a right) b) x y z (λ b. refl) c.in_ok-push_all.ensures c.in_ok-push_all-2.ensures) last)

pub push_arms-returns : goal.push_arms-returns
push_arms-returns t c =
    let a = c.args.shapes.now in
    on_ok c.push_branch.result c.push_branch.ensures
    (λ add. arms_added (tree_of a) (statement_of a) c.args.other c.args.arms.now c.loop-arm.arm-index c.loop-arm.out.items c.push_branch.new.out.items c.args.out.now.items c.loop-arm-test.false c.loop-arm.invariant add)

pub push_twice-push_arms-requires : goal.push_twice-push_arms-requires
push_twice-push_arms-requires t c =
    let a = c.args.shapes.now in
    let made = statement_of_node a (place_of_statement a c.args.s) in
    let names = subst (HasStatementNames (length a.nodes) c.args.s) c.in-Case.is c.statement_node.ensures.names in
    let parts = subst (λ (x : Statement). FitStatement (made x)) c.in-Case.is c.statement_node.ensures.parts in
    let fit = case_fit a (length a.nodes) c.args.s c.in-Case.arms c.in-Case.other names.1 names.2 parts.1 in
    (omega arith, (omega (arith, c.requires.there), (subst (λ (xs : List Arm). ArmsFit a c.args.s xs) (sym c.as_slice.ensures) fit.0, fit.1)))

pub push_twice-push_all-requires : goal.push_twice-push_all-requires
push_twice-push_all-requires t c =
    let a = c.args.shapes.now in
    let tree = c.statement_node.ensures.tree ∙ ap (statement_of_node a (place_of_statement a c.args.s)) c.in-Seq.is in
    let names = subst (HasStatementNames (length a.nodes) c.args.s) c.in-Seq.is c.statement_node.ensures.names in
    let fit = parts_fit a c.args.s c.in-Seq.parts names (ap fits_statement (sym tree) ∙ c.requires.fit) in
    (omega arith, (omega (arith, c.requires.there), subst (λ (ps : List ℕ). PartsFit a c.args.s ps) (sym c.as_slice-in-Seq.ensures) fit))

pub push_twice-returns-in-Case : goal.push_twice-returns-in-Case
push_twice-returns-in-Case t c =
    let a = c.args.shapes.now in
    let tree = c.statement_node.ensures.tree ∙ ap (statement_of_node a (place_of_statement a c.args.s)) c.in-Case.is in
    on_ok c.push_arms.result c.push_arms.ensures
    (adds_same _ _ _ _ (λ b. ap (λ (xs : List Arm). is_twice_in (arms_of a c.in-Case.other xs) b) c.as_slice.ensures ∙ ap (λ x. is_twice x b) (sym tree)))

pub push_twice-returns-in-Seq : goal.push_twice-returns-in-Seq
push_twice-returns-in-Seq t c =
    let a = c.args.shapes.now in
    let tree = c.statement_node.ensures.tree ∙ ap (statement_of_node a (place_of_statement a c.args.s)) c.in-Seq.is in
    on_ok c.push_all.result c.push_all.ensures
    (adds_same _ _ _ _ (λ b. ap (λ (ps : List ℕ). is_twice (in_order a ps) b) c.as_slice-in-Seq.ensures ∙ ap (λ x. is_twice x b) (sym tree)))
