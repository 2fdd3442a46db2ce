use Rattle.std.proofs.Common.{length, ap, arith}
use Rattle.std.proofs.lemmas.Option.{slice_get-get_or}
use Rattle.vs_flat.specs.Arena.{Arena}
use Rattle.vs_flat.specs.Trees.{signal_at, no_signal}
use Rattle.vs_flat.specs.DesignOf.{arena_signals}
use Rattle.vs_typed.proofs.SizeSteps.{memories_noted}
use Rattle.vs_typed.proofs.words.push_memories.Goals as goal

pub loop-n-preserved : goal.loop-n-preserved
loop-n-preserved c =
    let a = c.args.shapes.now in
    let n = c.loop-n.n in
    let same = ap (λ (y : Arena). length y.signals) c.flat.ensures.same in
    let at = slice_get-get_or (arena_signals a) n no_signal (omega (arith, c.loop-n-test.true, c.signal_count-n-end.ensures.count, (c.trees_law.ensures.counts a).signals, same)) in
    memories_noted c.args.bits.now.items (arena_signals a) n (signal_at (arena_signals a) n) c.loop-n.bits.items c.push_memory.new.bits.items at c.loop-n.invariant c.in_ok-push_memory.ensures
