use Rattle.std.proofs.Common.{arith}
use Rattle.vs_flat.specs.DesignOf.{initial_of, arena_statements, design_of}
use Rattle.vs_flat.specs.Trees.{statement_at}
use Rattle.vs_accept.proofs.Numbered.{stopped, went, all_went}
use Rattle.vs_accept.proofs.numbers.starts_before.Goals as goal

pub returns-then-initial-process-clause-count : goal.returns-then-initial-process-clause-count
returns-then-initial-process-clause-count c =
    let a = c.args.flat.now in
    let k = c.loop-k.k in
    stopped (design_of a).initials c.args.process k (initial_of (statement_at (arena_statements a)) c.initial.result) (c.trees_law.ensures.initials a k c.initial.result c.initial.ensures)
    (omega (arith, c.if-initial-process.true)) c.loop-k.invariant

pub loop-k-preserved : goal.loop-k-preserved
loop-k-preserved c =
    let a = c.args.flat.now in
    let k = c.loop-k.k in
    went (design_of a).initials c.args.process k (initial_of (statement_at (arena_statements a)) c.initial.result) (c.trees_law.ensures.initials a k c.initial.result c.initial.ensures)
    (omega (arith, c.if-initial-process.false)) c.loop-k.invariant

pub returns-clause-count : goal.returns-clause-count
returns-clause-count c =
    let a = c.args.flat.now in
    let same = (c.trees_law.ensures.counts a).initials in
    all_went (design_of a).initials c.args.process c.loop-k.k c.initial_count-count.result (omega (arith, same, c.initial_count-count.ensures.count)) (omega (arith, c.loop-k-test.false)) c.loop-k.invariant
