use Rattle.std.proofs.Common.{ap, sym, ◌∙◌}
use Rattle.vs_design.specs.Designs.{Always}
use Rattle.vs_design.specs.Footprints.{ascending, statement_bits, statement_reads}
use Rattle.vs_shape.specs.Bodies.{body_of}
use Rattle.vs_reads.proofs.Gathered.{footprint_is, one_list, ascending_none, reads_below, writes_below, clocked_reads, clocked_waits}
use Rattle.vs_reads.proofs.gather.clocked_bits.Goals as goal

pub returns : goal.returns
returns c count place star events edge within =
    let st = body_of c.args.shapes.now c.args.statement in
    let x = Always place star events st in
    let read = one_list c.new-reads.result.items c.push_statement-2.new.out.items (statement_reads st) c.new-reads.ensures.items c.in_ok-push_statement-2.ensures in
    let written = one_list c.new-writes.result.items c.push_statement.new.out.items (statement_bits st) c.new-writes.ensures.items c.in_ok-push_statement.ensures in
    footprint_is count x (record { reads = c.in_ok-ascending.field-0; writes = c.in_ok-ascending-2.field-0; waits = c.new.result })
    (c.in_ok-ascending.ensures.is count (reads_below count x c.push_statement-2.new.out.items within read) ∙ ap (ascending count) (read ∙ sym (clocked_reads place star events st edge)))
    (c.in_ok-ascending-2.ensures.is count (writes_below count x c.push_statement.new.out.items within written) ∙ ap (ascending count) written)
    (c.new.ensures.items ∙ sym (ap (ascending count) (clocked_waits place star events st edge) ∙ ascending_none count))
