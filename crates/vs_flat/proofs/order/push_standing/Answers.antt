use Rattle.std.proofs.Common.{eq-eqb}
use Rattle.vs_flat.specs.DesignOf.{initial_of, arena_statements, design_of}
use Rattle.vs_flat.specs.Trees.{statement_at}
use Rattle.vs_flat.proofs.TextOrder.{other_than, added_here, next_here, added_more}
use Rattle.vs_flat.proofs.order.push_standing.Goals as goal

pub returns-then-initial-process-clause-added : goal.returns-then-initial-process-clause-added
returns-then-initial-process-clause-added c =
    let a = c.args.flat.now in
    let k = c.loop-k.k in
    added_here (design_of a) c.args.process k (initial_of (statement_at (arena_statements a)) c.initial.result) (c.trees_law.ensures.initials a k c.initial.result c.initial.ensures)
    (other_than c.initial.result.behind c.args.process c.if-initial-process.true) c.args.order.now.items c.loop-k.order.items c.loop-k.invariant

pub returns-then-initial-process-clause-next : goal.returns-then-initial-process-clause-next
returns-then-initial-process-clause-next c =
    let a = c.args.flat.now in
    let k = c.loop-k.k in
    next_here (design_of a) c.args.process k (initial_of (statement_at (arena_statements a)) c.initial.result) (c.trees_law.ensures.initials a k c.initial.result c.initial.ensures)
    (other_than c.initial.result.behind c.args.process c.if-initial-process.true) c.args.order.now.items c.loop-k.order.items c.loop-k.invariant

pub loop-k-preserved : goal.loop-k-preserved
loop-k-preserved c =
    let a = c.args.flat.now in
    let k = c.loop-k.k in
    added_more (design_of a) c.args.process k (initial_of (statement_at (arena_statements a)) c.initial.result) c.args.order.now.items c.loop-k.order.items c.push.new.self.items (c.trees_law.ensures.initials a k c.initial.result c.initial.ensures)
    (eq-eqb c.initial.result.behind c.args.process c.if-initial-process.false) c.in_ok-push.ensures.items c.loop-k.invariant
