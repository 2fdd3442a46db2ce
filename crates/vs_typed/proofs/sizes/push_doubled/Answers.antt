use Rattle.std.proofs.Common.{◌++◌, [], true, false, if◌then◌else◌, sym, ap, ◌∙◌}
use Rattle.std.specs.Prelude.{filter}
use Rattle.std.proofs.lemmas.List.{append-nil}
use Rattle.vs_design.specs.Footprints.{contains}
use Rattle.vs_design.specs.Races.{blocking_bits, nonblocking_bits}
use Rattle.vs_flat.specs.Trees.{signal_at}
use Rattle.vs_flat.specs.DesignOf.{arena_signals, design_of}
use Rattle.vs_shape.specs.Bodies.{body_of}
use Rattle.vs_reads.proofs.FitKinds.{edges_of}
use Rattle.vs_sets.proofs.FlagSteps.{found_kind}
use Rattle.vs_sets.proofs.TwiceSteps.{on_ok}
use Rattle.vs_typed.proofs.SizeSteps.{doubled_noted}
use Rattle.vs_typed.proofs.sizes.push_doubled.Goals as goal

pub returns-in-Assign : goal.returns-in-Assign
returns-in-Assign c =
    let a = c.args.shapes.now in
    let found = found_kind c.trees_law.ensures.processes a c.args.p c.fit_process.result.now _ c.fit_process.ensures.is c.in-Assign.is in
    doubled_noted (design_of a).processes c.args.p _ c.args.bits.now.items c.args.bits.now.items found c.requires.so_far (sym (append-nil c.args.bits.now.items))

pub returns-then-has_edge : goal.returns-then-has_edge
returns-then-has_edge c =
    let a = c.args.shapes.now in
    let found = found_kind c.trees_law.ensures.processes a c.args.p c.fit_process.result.now _ c.fit_process.ensures.is c.in-Block.is in
    let edge = edges_of (signal_at (arena_signals a)) c.in-Block.events c.as_slice.result.now c.has_edge.result true c.as_slice.ensures c.has_edge.ensures c.if-has_edge.true in
    let s = body_of a c.in-Block.statement in
    on_ok c.push_both_ways.result c.push_both_ways.ensures
    (λ e. doubled_noted (design_of a).processes c.args.p _ c.args.bits.now.items c.push_both_ways.new.out.items found c.requires.so_far
    (e ∙ ap (λ k. c.args.bits.now.items ++ (if k then filter (contains (blocking_bits s)) (nonblocking_bits s) else [])) (sym edge)))

pub returns-else-has_edge : goal.returns-else-has_edge
returns-else-has_edge c =
    let a = c.args.shapes.now in
    let found = found_kind c.trees_law.ensures.processes a c.args.p c.fit_process.result.now _ c.fit_process.ensures.is c.in-Block.is in
    let level = edges_of (signal_at (arena_signals a)) c.in-Block.events c.as_slice.result.now c.has_edge.result false c.as_slice.ensures c.has_edge.ensures c.if-has_edge.false in
    let s = body_of a c.in-Block.statement in
    doubled_noted (design_of a).processes c.args.p _ c.args.bits.now.items c.args.bits.now.items found c.requires.so_far
    (sym (append-nil c.args.bits.now.items) ∙ ap (λ k. c.args.bits.now.items ++ (if k then filter (contains (blocking_bits s)) (nonblocking_bits s) else [])) (sym level))
