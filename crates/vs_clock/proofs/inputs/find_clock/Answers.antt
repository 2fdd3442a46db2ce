use Rattle.std.proofs.Common.{◌<◌, length, sym, ◌∙◌}
use Rattle.vs_flat.specs.DesignOf.{arena_signals}
use Rattle.vs_clock.specs.Inputs.{is_named_input}
use Rattle.vs_reads.proofs.Told.{there}
use Rattle.vs_clock.proofs.Finding.{find_more, find_at}
use Rattle.vs_clock.proofs.inputs.find_clock.Goals as goal

pub returns-then-is_named-clause-clock : goal.returns-then-is_named-clause-clock
returns-then-is_named-clause-clock c =
    let l : c.loop-n.n < length (arena_signals c.args.flat.now) = there (there c.loop-n-test.true c.signal_count-n-end.ensures.count) (sym (c.trees_law.ensures.counts c.args.flat.now).signals) in
    find_at (is_named_input c.args.name.now) (arena_signals c.args.flat.now) c.loop-n.n l c.loop-n.invariant (sym c.is_named.ensures ∙ c.if-is_named.true)

pub loop-n-preserved : goal.loop-n-preserved
loop-n-preserved c =
    let l : c.loop-n.n < length (arena_signals c.args.flat.now) = there (there c.loop-n-test.true c.signal_count-n-end.ensures.count) (sym (c.trees_law.ensures.counts c.args.flat.now).signals) in
    find_more (is_named_input c.args.name.now) (arena_signals c.args.flat.now) c.loop-n.n l c.loop-n.invariant (sym c.is_named.ensures ∙ c.if-is_named.false)
