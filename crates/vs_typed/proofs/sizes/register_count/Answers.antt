use Rattle.std.proofs.Common.{◌++◌, length, ap, ◌∙◌, arith}
use Rattle.std.proofs.lemmas.List.{take_all}
use Rattle.vs_design.specs.Footprints.{memory_bits}
use Rattle.vs_design.specs.Sizes.{distinct, register_bits}
use Rattle.vs_flat.specs.Arena.{Arena}
use Rattle.vs_flat.specs.DesignOf.{design_of}
use Rattle.vs_typed.proofs.sizes.register_count.Goals as goal

pub returns : goal.returns
returns c =
    let a = c.args.shapes.now in
    let ps = (design_of a).processes in
    let all = take_all c.loop-p.p ps (omega (arith, (c.trees_law.ensures.counts a).processes, ap (λ (x : Arena). length x.processes) c.flat.ensures.same, c.process_count-p-end.ensures.count, c.loop-p-test.false)) in
    c.distinct.ensures ∙ ap distinct (c.in_ok-push_memories.ensures ∙ ap (λ bs. bs ++ memory_bits (design_of a)) (c.loop-p.invariant ∙ ap register_bits all))
