use Rattle.std.proofs.Common.{refl, subst}
use Rattle.vs_flat.specs.DesignOf.{arena_signals}
use Rattle.vs_flat.specs.Lawful.{IsLawful}
use Rattle.vs_flat.specs.Trees.{signal_at}
use Rattle.vs_reads.proofs.FitKinds.{edges_of, assign_done, clocked_done, combinational_done, block_fits}
use Rattle.vs_reads.proofs.processes.process_bits.Goals as goal

pub clocked_bits-requires-clause-fits : goal.clocked_bits-requires-clause-fits
clocked_bits-requires-clause-fits c =
    block_fits c.args.shapes.now c.args.shapes.now c.fit_process.result.now.kind c.in-Block.star c.in-Block.events c.in-Block.statement refl c.fit_process.ensures.fit c.in-Block.is

pub returns-in-Assign : goal.returns-in-Assign
returns-in-Assign c =
    assign_done c.footprint_law.ensures.bits c.trees_law.ensures.processes c.args.shapes.now c.args.shapes.now refl (subst IsLawful c.flat.ensures.same c.flat.ensures.lawful) c.args.p c.fit_process.result.now c.fit_process.ensures.is c.assign_bits.result
    c.in-Assign.target c.in-Assign.expr c.in-Assign.port c.in-Assign.is c.assign_bits.ensures

pub returns-then-has_edge : goal.returns-then-has_edge
returns-then-has_edge c =
    clocked_done c.footprint_law.ensures.bits c.trees_law.ensures.processes c.args.shapes.now c.args.shapes.now refl (subst IsLawful c.flat.ensures.same c.flat.ensures.lawful) c.args.p c.fit_process.result.now c.fit_process.ensures.is c.clocked_bits.result
    c.in-Block.star c.in-Block.events c.in-Block.statement c.in-Block.is
    (edges_of (signal_at (arena_signals c.args.shapes.now)) c.in-Block.events c.as_slice.result.now c.has_edge.result _ c.as_slice.ensures c.has_edge.ensures c.if-has_edge.true) c.clocked_bits.ensures

pub returns-else-has_edge : goal.returns-else-has_edge
returns-else-has_edge c =
    combinational_done c.footprint_law.ensures.bits c.trees_law.ensures.processes c.args.shapes.now c.args.shapes.now refl (subst IsLawful c.flat.ensures.same c.flat.ensures.lawful) c.args.p c.fit_process.result.now c.fit_process.ensures.is
    c.combinational_bits.result c.in-Block.star c.in-Block.events c.as_slice-else-has_edge.result.now c.in-Block.statement c.in-Block.is c.as_slice-else-has_edge.ensures
    (edges_of (signal_at (arena_signals c.args.shapes.now)) c.in-Block.events c.as_slice.result.now c.has_edge.result _ c.as_slice.ensures c.has_edge.ensures c.if-has_edge.false) c.combinational_bits.ensures
