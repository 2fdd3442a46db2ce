use Rattle.std.proofs.Common.{rules, ◌≡◌, ◌<◌, List, length, IfOk, ap, subst, sym, ◌∙◌, arith}
use Rattle.vs_grammar.specs.Trees as tree
use Rattle.vs_grammar.specs.Shapes.{IsTarget, AreTargets}
use Rattle.vs_ast.specs.Views as view
use Rattle.vs_ast.proofs.Rows.{target_rows}
use Rattle.vs_ast.specs.declared.statements.Target.{Target, the_lemmas}
use Rattle.vs_elaborated.specs.Targets.{typed_target, typed_targets}
use Rattle.vs_bodies.specs.declared.told.Told.{Told}
use Rattle.vs_bodies.specs.Told.{told_target}
use Rattle.vs_bodies.proofs.FaultLists.{concatenation_view}
use Rattle.vs_bodies.proofs.Parts.{none_so_far, one_more, none_more}
use Rattle.vs_bodies.proofs.Telling.{target_part, targets_told, parts_shaped, target_at, target_at_most}
use Rattle.vs_bodies.proofs.targets.+targets.Goals as goal

pub target_told-returns-in-Named : goal.target_told-returns-in-Named
target_told-returns-in-Named g t c =
    subst (λ (x : Target). IfOk c.selected_told.result (λ (w : Told). w ≡ told_target (typed_target (view.target x) (g.E.Env.names c.args.env.now) c.args.procedural))) (sym c.in-Named.is) c.selected_told.ensures

pub target_told-targets_told-requires : goal.target_told-targets_told-requires
target_told-targets_told-requires g t c κs within = (
  search (rules, target_rows, the_lemmas),
  (
    within,
    (
      subst (λ (xs : List Target). AreTargets (view.targets xs)) (sym c.deref.ensures.value)
          (parts_shaped (view.targets c.in-Concatenation.parts.items) (subst IsTarget (ap view.target c.in-Concatenation.is ∙ concatenation_view c.in-Concatenation.place c.in-Concatenation.parts) c.requires.shaped)),
      c.requires.fair,
    ),
  ),
)

pub target_told-returns-in-Concatenation : goal.target_told-returns-in-Concatenation
target_told-returns-in-Concatenation g t c =
    let find = g.E.Env.names c.args.env.now in
    let p = c.args.procedural in
    subst (λ (z : Told). IfOk c.targets_told.result (λ (w : Told). w ≡ z))
    (ap (λ (xs : List Target). told_target (typed_targets (view.targets xs) find p)) c.deref.ensures.value
    ∙ sym (ap (λ (x : tree.Target). told_target (typed_target x find p)) (ap view.target c.in-Concatenation.is ∙ concatenation_view c.in-Concatenation.place c.in-Concatenation.parts)))
    c.targets_told.ensures

pub targets_told-target_told-requires : goal.targets_told-target_told-requires
targets_told-target_told-requires g t c κs within =
    let i = c.loop-part.part-index in
    let inside : i < length c.args.list.now = c.loop-part-test.true in
    (omega (arith, target_at_most c.args.list.now i c.part-item.result inside c.part-item.is, c.decreases), (within, (target_at c.args.list.now i c.part-item.result c.requires.shaped inside c.part-item.is, c.requires.fair)))

pub targets_told-loop-part-init : goal.targets_told-loop-part-init
targets_told-loop-part-init g t c = none_so_far (target_part (g.E.Env.names c.args.env.now) c.args.procedural) c.args.list.now 0 c.broken-told.result c.broken-told.ensures

pub targets_told-loop-part-preserved : goal.targets_told-loop-part-preserved
targets_told-loop-part-preserved g t c =
    let n : c.in_ok-one.one.count ≡ 0 = ap (λ (x : Told). x.count) c.in_ok-one.ensures in
    one_more (target_part (g.E.Env.names c.args.env.now) c.args.procedural) c.args.list.now c.loop-part.part-index 0 c.part-item.result c.loop-part.told c.in_ok-one.one c.with-told.result
    c.loop-part-test.true c.part-item.is c.in_ok-one.ensures (omega (arith, n)) c.with-told.ensures c.loop-part.invariant

pub targets_told-returns : goal.targets_told-returns
targets_told-returns g t c =
    none_more (target_part (g.E.Env.names c.args.env.now) c.args.procedural) c.args.list.now c.loop-part.part-index 0 c.loop-part.told c.loop-part-test.false c.loop-part.invariant
    ∙ sym (targets_told (g.E.Env.names c.args.env.now) c.args.procedural c.args.list.now)
