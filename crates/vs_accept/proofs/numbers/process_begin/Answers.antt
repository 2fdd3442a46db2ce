use Rattle.std.proofs.Common.{sym, ◌∙◌, arith}
use Rattle.vs_flat.specs.DesignOf.{process_of, arena_signals, arena_trees, arena_statements, design_of}
use Rattle.vs_flat.specs.Trees.{signal_at, tree_at, statement_at}
use Rattle.vs_accept.proofs.Numbered.{place_is, begins, begins_nowhere}
use Rattle.vs_accept.proofs.numbers.process_begin.Goals as goal

pub returns-then-process-process_count : goal.returns-then-process-process_count
returns-then-process-process_count c =
    let same = (c.trees_law.ensures.counts c.args.flat.now).processes in
    begins_nowhere (design_of c.args.flat.now) c.args.process (omega (arith, same, c.process_count.ensures.count, c.if-process-process_count.true))

pub returns : goal.returns
returns c =
    let a = c.args.flat.now in
    let p = c.process.result.now in
    let signal = signal_at (arena_signals a) in
    let tree = tree_at (arena_trees a) in
    let statement = statement_at (arena_statements a) in
    sym (place_is signal tree statement p.at p.kind)
    ∙ begins (design_of a) c.args.process (process_of signal tree statement p) (c.trees_law.ensures.processes a c.args.process p c.process.ensures)
