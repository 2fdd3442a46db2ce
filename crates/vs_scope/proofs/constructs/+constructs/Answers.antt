use Rattle.std.proofs.Common.{◌≡◌, ◌≤◌, ◌<◌, ◌+◌, ◌*◌, ℕ, List, IfOk, sym, ap, ◌∙◌, subst, arith}
use Rattle.vs_ast.specs.Views as view
use Rattle.vs_ast.specs.declared.items.GenerateArm.{GenerateArm}
use Rattle.vs_grammar.specs.Trees as tree
use Rattle.vs_grammar.specs.Shapes.{Given, IsBlock, AreGenerateArms}
use Rattle.vs_grammar.specs.Depths.{item_depth}
use Rattle.vs_const.specs.Expressions.{number}
use Rattle.vs_elaborated.specs.Environments.{named}
use Rattle.vs_elaborated.specs.Generate as generate
use Rattle.vs_elaborated.specs.Limits.{the_limits}
use Rattle.vs_elaborated.specs.Constructs as spec
use Rattle.vs_scope.specs.Chosen.{IsChosen, IsConstruct, block_now, fallback_block, of_if, of_case}
use Rattle.vs_scope.specs.Frames.{view_env}
use Rattle.vs_scope.specs.Made.{made, kept}
use Rattle.vs_scope.proofs.ChosenBlocks.{depth_of, fallback_of, option_is, if_view, case_view, if_is, case_is, if_shaped, case_shaped, if_deep, case_deep}
use Rattle.vs_scope.proofs.constructs.+constructs.Goals as goal

fewer : (d i t : ℕ) → d ≤ i → 2 * i + 1 ≡ t → 2 * d < t
fewer d i t h e = omega (arith, h, e)

pub construct-branch-alloc-requires : goal.construct-branch-alloc-requires
construct-branch-alloc-requires t c =
    let env = view_env c.args.here.now in
    let w = c.in-GenerateIf in
    let other = fallback_of w.other in
    let item : view.item c.args.item.now ≡ tree.GenerateIf w.place (view.expr w.condition) (view.block w.taken.value) other = ap view.item w.is ∙ if_view w.place w.condition w.taken w.other in
    let v = number (view.expr w.condition) (named env) in
    let taken : view.block c.deref-in-GenerateIf.result.now ≡ view.block w.taken.value = ap view.block c.deref-in-GenerateIf.ensures in
    let rest : block_now c.fallback.result ≡ fallback_block other = c.fallback.ensures ∙ option_is w.other in
    let is : IsChosen c.in_ok-c-in-GenerateIf.c (of_if v (view.block w.taken.value) (fallback_block other)) =
    subst (λ o. IsChosen c.in_ok-c-in-GenerateIf.c (of_if v (view.block w.taken.value) o)) rest
    (subst (λ b. IsChosen c.in_ok-c-in-GenerateIf.c (of_if v b (block_now c.fallback.result))) taken c.in_ok-c-in-GenerateIf.ensures) in
    let deep : depth_of (block_now c.in_ok-c-in-GenerateIf.c.body) ≤ item_depth (view.item c.args.item.now) =
    subst (λ (n : ℕ). n ≤ item_depth (view.item c.args.item.now)) (ap depth_of (sym is.block))
    (subst (λ (x : tree.Item). depth_of (of_if v (view.block w.taken.value) (fallback_block other)).block ≤ item_depth x) (sym item) (if_deep v.number w.place (view.expr w.condition) (view.block w.taken.value) other)) in
    let shape = subst IsConstruct item c.requires.shaped in
    let shaped : Given IsBlock (block_now c.in_ok-c-in-GenerateIf.c.body) = subst (Given IsBlock) (sym is.block) (if_shaped v.number (view.block w.taken.value) other shape.1 shape.2) in
    (fewer (depth_of (block_now c.in_ok-c-in-GenerateIf.c.body)) (item_depth (view.item c.args.item.now)) t deep c.decreases, (shaped, c.requires.inside))

pub construct-returns-in_ok-c-in-GenerateIf : goal.construct-returns-in_ok-c-in-GenerateIf
construct-returns-in_ok-c-in-GenerateIf t c =
    let env = view_env c.args.here.now in
    let w = c.in-GenerateIf in
    let other = fallback_of w.other in
    let item : view.item c.args.item.now ≡ tree.GenerateIf w.place (view.expr w.condition) (view.block w.taken.value) other = ap view.item w.is ∙ if_view w.place w.condition w.taken w.other in
    let v = number (view.expr w.condition) (named env) in
    let taken : view.block c.deref-in-GenerateIf.result.now ≡ view.block w.taken.value = ap view.block c.deref-in-GenerateIf.ensures in
    let rest : block_now c.fallback.result ≡ fallback_block other = c.fallback.ensures ∙ option_is w.other in
    let is : IsChosen c.in_ok-c-in-GenerateIf.c (of_if v (view.block w.taken.value) (fallback_block other)) =
    subst (λ o. IsChosen c.in_ok-c-in-GenerateIf.c (of_if v (view.block w.taken.value) o)) rest
    (subst (λ b. IsChosen c.in_ok-c-in-GenerateIf.c (of_if v b (block_now c.fallback.result))) taken c.in_ok-c-in-GenerateIf.ensures) in
    subst (λ (x : generate.Made). IfOk c.branch-alloc.result (λ m. made m ≡ kept x))
    (if_is w.place (view.expr w.condition) (view.block w.taken.value) other env c.args.n c.args.total ∙ ap (λ (x : tree.Item). spec.construct x the_limits env c.args.n c.args.total) (sym item))
    (c.branch-alloc.ensures (of_if v (view.block w.taken.value) (fallback_block other)) is)

pub construct-chosen_arm-requires-clause-arms : goal.construct-chosen_arm-requires-clause-arms
construct-chosen_arm-requires-clause-arms t c =
    let w = c.in-GenerateCase in
    let item : view.item c.args.item.now ≡ tree.GenerateCase w.place (view.expr w.subject) (view.generate_arms w.arms.items) (fallback_of w.other) = ap view.item w.is ∙ case_view w.place w.subject w.arms w.other in
    let shape = subst IsConstruct item c.requires.shaped in
    subst (λ (x : List GenerateArm). AreGenerateArms (view.generate_arms x)) (sym c.as_slice.ensures.value) shape.1

pub construct-branch-alloc-requires-in-GenerateCase : goal.construct-branch-alloc-requires-in-GenerateCase
construct-branch-alloc-requires-in-GenerateCase t c =
    let env = view_env c.args.here.now in
    let w = c.in-GenerateCase in
    let other = fallback_of w.other in
    let arms = view.generate_arms w.arms.items in
    let item : view.item c.args.item.now ≡ tree.GenerateCase w.place (view.expr w.subject) arms other = ap view.item w.is ∙ case_view w.place w.subject w.arms w.other in
    let s = spec.said_case (view.expr w.subject) arms env in
    let rest : block_now c.fallback-in-GenerateCase.result ≡ fallback_block other = c.fallback-in-GenerateCase.ensures ∙ option_is w.other in
    let is : IsChosen c.in_ok-c-in-GenerateCase.c (of_case s arms (fallback_block other)) =
    subst (λ o. IsChosen c.in_ok-c-in-GenerateCase.c (of_case s arms o)) rest
    (subst (λ (x : List GenerateArm). IsChosen c.in_ok-c-in-GenerateCase.c (of_case (spec.said_case (view.expr w.subject) (view.generate_arms x) env) (view.generate_arms x) (block_now c.fallback-in-GenerateCase.result))) c.as_slice.ensures.value c.in_ok-c-in-GenerateCase.ensures) in
    let deep : depth_of (block_now c.in_ok-c-in-GenerateCase.c.body) ≤ item_depth (view.item c.args.item.now) =
    subst (λ (n : ℕ). n ≤ item_depth (view.item c.args.item.now)) (ap depth_of (sym is.block))
    (subst (λ (x : tree.Item). depth_of (of_case s arms (fallback_block other)).block ≤ item_depth x) (sym item) (case_deep s.defined s.arm w.place (view.expr w.subject) arms other)) in
    let shape = subst IsConstruct item c.requires.shaped in
    let shaped : Given IsBlock (block_now c.in_ok-c-in-GenerateCase.c.body) = subst (Given IsBlock) (sym is.block) (case_shaped s.defined s.arm arms other shape.1 shape.2) in
    (fewer (depth_of (block_now c.in_ok-c-in-GenerateCase.c.body)) (item_depth (view.item c.args.item.now)) t deep c.decreases, (shaped, c.requires.inside))

pub construct-returns-in_ok-c-in-GenerateCase : goal.construct-returns-in_ok-c-in-GenerateCase
construct-returns-in_ok-c-in-GenerateCase t c =
    let env = view_env c.args.here.now in
    let w = c.in-GenerateCase in
    let other = fallback_of w.other in
    let arms = view.generate_arms w.arms.items in
    let item : view.item c.args.item.now ≡ tree.GenerateCase w.place (view.expr w.subject) arms other = ap view.item w.is ∙ case_view w.place w.subject w.arms w.other in
    let s = spec.said_case (view.expr w.subject) arms env in
    let rest : block_now c.fallback-in-GenerateCase.result ≡ fallback_block other = c.fallback-in-GenerateCase.ensures ∙ option_is w.other in
    let is : IsChosen c.in_ok-c-in-GenerateCase.c (of_case s arms (fallback_block other)) =
    subst (λ o. IsChosen c.in_ok-c-in-GenerateCase.c (of_case s arms o)) rest
    (subst (λ (x : List GenerateArm). IsChosen c.in_ok-c-in-GenerateCase.c (of_case (spec.said_case (view.expr w.subject) (view.generate_arms x) env) (view.generate_arms x) (block_now c.fallback-in-GenerateCase.result))) c.as_slice.ensures.value c.in_ok-c-in-GenerateCase.ensures) in
    subst (λ (x : generate.Made). IfOk c.branch-alloc-in-GenerateCase.result (λ m. made m ≡ kept x))
    (case_is w.place (view.expr w.subject) arms other env c.args.n c.args.total ∙ ap (λ (x : tree.Item). spec.construct x the_limits env c.args.n c.args.total) (sym item))
    (c.branch-alloc-in-GenerateCase.ensures (of_case s arms (fallback_block other)) is)
