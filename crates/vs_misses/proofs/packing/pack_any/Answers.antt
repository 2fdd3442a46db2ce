use Rattle.std.proofs.Common.{length, slice_index, ap, ◌∙◌}
use Rattle.std.proofs.lemmas.List.{get_or-replicate}
use Rattle.vs_four.specs.Planes.{bits_of_planes}
use Rattle.vs_misses.proofs.Packs.{uniform_filled}
use Rattle.vs_misses.proofs.packing.pack_any.Goals as goal

pub returns-then-are_uniform-clause-packed : goal.returns-then-are_uniform-clause-packed
returns-then-are_uniform-clause-packed g c = λ i below.
    c.fill.ensures.filled i below
    ∙ uniform_filled (length c.args.free.now) i (slice_index c.args.any.now i) c.lowest.result c.requires.most (c.are_uniform.ensures c.if-are_uniform.true i below) (c.lowest.ensures i below)

pub returns-else-are_uniform-clause-packed : goal.returns-else-are_uniform-clause-packed
returns-else-are_uniform-clause-packed g c = λ i below.
    c.pack.ensures.packed i below ∙ ap (bits_of_planes (length c.args.free.now) (slice_index c.args.any.now i)) (get_or-replicate 64 i 0 0 below)
