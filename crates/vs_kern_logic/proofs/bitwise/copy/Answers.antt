use Rattle.std.proofs.Common.{◌∙◌}
use Rattle.std.proofs.lemmas.List.{map-id}
use Rattle.vs_plane.specs.Kernels.{lane_bits}
use Rattle.vs_kern_logic.proofs.bitwise.copy.Goals as goal

pub returns-clause-computes : goal.returns-clause-computes
returns-clause-computes g c = record {
  value = λ i h. c.output_bits.ensures.computes.value i h ∙ map-id (lane_bits g.W.Word.lane c.args.file.now c.args.a.now i);
  others = c.output_bits.ensures.computes.others;
}
