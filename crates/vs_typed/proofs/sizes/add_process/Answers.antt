use Rattle.std.proofs.Common.{◌≡◌, ◌+◌, map, true, false, sym, ap, ◌∙◌, arith}
use Rattle.vs_design.specs.Footprints.{statement_bits}
use Rattle.vs_design.specs.Sizes.{process_weight, distinct}
use Rattle.vs_flat.specs.Trees.{signal_at}
use Rattle.vs_flat.specs.DesignOf.{arena_signals, event_of}
use Rattle.vs_shape.specs.Bodies.{body_of}
use Rattle.vs_reads.proofs.FitKinds.{edges_of}
use Rattle.vs_typed.specs.Weights.{capped}
use Rattle.vs_typed.proofs.FoundSteps.{found_kind}
use Rattle.vs_typed.proofs.SizeSteps.{process_clocked, process_combinational}
use Rattle.vs_typed.proofs.WeightSteps.{if_ok}
use Rattle.vs_typed.proofs.sizes.add_process.Goals as goal

pub returns-then-has_edge : goal.returns-then-has_edge
returns-then-has_edge c =
    let a = c.args.shapes.now in
    let events = map (event_of (signal_at (arena_signals a))) c.in-Block.events in
    let edge = edges_of (signal_at (arena_signals a)) c.in-Block.events c.as_slice.result.now c.has_edge.result true c.as_slice.ensures c.has_edge.ensures c.if-has_edge.true in
    let cost = process_clocked c.fit_process.result.now.at c.in-Block.star events (body_of a c.in-Block.statement) edge in
    if_ok c.add_statement.result c.add_statement.ensures
    (λ v h x at. h ∙ ap (λ n. capped (c.args.total + n)) (sym cost ∙ ap process_weight (found_kind c.trees_law.ensures.processes a c.args.p c.fit_process.result.now _ x c.fit_process.ensures.is c.in-Block.is at)))

pub returns-in_ok-written-in-Block : goal.returns-in_ok-written-in-Block
returns-in_ok-written-in-Block c =
    let a = c.args.shapes.now in
    let s = body_of a c.in-Block.statement in
    let events = map (event_of (signal_at (arena_signals a))) c.in-Block.events in
    let level = edges_of (signal_at (arena_signals a)) c.in-Block.events c.as_slice.result.now c.has_edge.result false c.as_slice.ensures c.has_edge.ensures c.if-has_edge.false in
    let cost = process_combinational c.fit_process.result.now.at c.in-Block.star events s level in
    let written : c.in_ok-written-in-Block.written ≡ distinct (statement_bits s) = c.in_ok-written-in-Block.ensures in
    let first : c.plus.result ≡ capped (c.args.total + c.in_ok-written-in-Block.written) = c.plus.ensures in
    if_ok c.add_statement-in-Block.result c.add_statement-in-Block.ensures
    (λ v h x at. omega (arith, h, first, written, cost, ap process_weight (found_kind c.trees_law.ensures.processes a c.args.p c.fit_process.result.now _ x c.fit_process.ensures.is c.in-Block.is at)))
