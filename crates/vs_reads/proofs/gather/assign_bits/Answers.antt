use Rattle.std.proofs.Common.{ap, sym, ◌∙◌}
use Rattle.vs_design.specs.Designs.{Continuous}
use Rattle.vs_design.specs.Footprints.{ascending, read_bits, target_bits, target_reads}
use Rattle.vs_flat.specs.Trees.{target_tree}
use Rattle.vs_shape.specs.Nodes.{tree_of}
use Rattle.vs_reads.proofs.Gathered.{footprint_is, one_list, two_lists, ascending_none, reads_below, writes_below}
use Rattle.vs_reads.proofs.gather.assign_bits.Goals as goal

pub returns : goal.returns
returns c count place target_place port within =
    let target = target_tree (tree_of c.args.shapes.now c.args.target) in
    let e = tree_of c.args.shapes.now c.args.e in
    let x = Continuous place port target_place target e in
    let read = two_lists c.new-reads.result.items c.push_target_reads.new.out.items c.push_reads.new.out.items (target_reads target) (read_bits e) c.new-reads.ensures.items c.in_ok-push_target_reads.ensures c.in_ok-push_reads.ensures in
    let written = one_list c.new-writes.result.items c.push_target.new.out.items (target_bits target) c.new-writes.ensures.items c.in_ok-push_target.ensures in
    footprint_is count x (record { reads = c.in_ok-ascending.field-0; writes = c.in_ok-ascending-2.field-0; waits = c.new.result })
    (c.in_ok-ascending.ensures.is count (reads_below count x c.push_reads.new.out.items within read) ∙ ap (ascending count) read)
    (c.in_ok-ascending-2.ensures.is count (writes_below count x c.push_target.new.out.items within written) ∙ ap (ascending count) written)
    (c.new.ensures.items ∙ sym (ascending_none count))
