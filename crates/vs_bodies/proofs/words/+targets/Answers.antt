use Rattle.std.proofs.Common.{rules, ◌<◌, List, length, map, flat_map, ap, sym, ◌∙◌, arith}
use Rattle.std.proofs.lemmas.List.{take_all}
use Rattle.vs_grammar.specs.Trees as tree
use Rattle.vs_ast.specs.Views as view
use Rattle.vs_ast.proofs.Rows.{target_rows}
use Rattle.vs_ast.specs.declared.statements.Target.{Target, the_lemmas}
use Rattle.vs_const.specs.Faults.{least}
use Rattle.vs_elaborated.specs.Statements.{target_memories, targets_memories}
use Rattle.vs_bodies.proofs.FaultLists.{concatenation_view, least_more, of_target, targets_have}
use Rattle.vs_bodies.proofs.Telling.{target_at_most}
use Rattle.vs_bodies.proofs.words.+targets.Goals as goal

pub target_memory-targets_memory-requires : goal.target_memory-targets_memory-requires
target_memory-targets_memory-requires g t c κs within = (search (rules, target_rows, the_lemmas), within)

pub target_memory-returns-in-Concatenation : goal.target_memory-returns-in-Concatenation
target_memory-returns-in-Concatenation g t c =
    let find = g.E.Env.names c.args.env.now in
    c.targets_memory.ensures ∙ ap (λ (xs : List Target). least (targets_memories (view.targets xs) find)) c.deref.ensures.value
    ∙ sym (ap (λ (x : tree.Target). least (target_memories x find)) (ap view.target c.in-Concatenation.is ∙ concatenation_view c.in-Concatenation.place c.in-Concatenation.parts))

pub targets_memory-target_memory-found-requires : goal.targets_memory-target_memory-found-requires
targets_memory-target_memory-found-requires g t c κs within =
    let i = c.loop-part.part-index in
    let inside : i < length c.args.list.now = c.loop-part-test.true in
    (omega (arith, target_at_most c.args.list.now i c.part-item.result inside c.part-item.is, c.decreases), within)

pub targets_memory-loop-part-preserved : goal.targets_memory-loop-part-preserved
targets_memory-loop-part-preserved g t c =
    least_more view.target (of_target (g.E.Env.names c.args.env.now)) c.args.list.now c.loop-part.part-index c.part-item.result _ _ _ c.loop-part-test.true c.part-item.is
    c.first_of-fault.ensures c.loop-part.invariant c.target_memory-found.ensures

pub targets_memory-returns : goal.targets_memory-returns
targets_memory-returns g t c =
    let find = g.E.Env.names c.args.env.now in
    c.loop-part.invariant
    ∙ ap (λ (xs : List Target). least (flat_map (of_target find) (map view.target xs))) (take_all c.loop-part.part-index c.args.list.now c.loop-part-test.false)
    ∙ ap least (sym (targets_have find c.args.list.now))
