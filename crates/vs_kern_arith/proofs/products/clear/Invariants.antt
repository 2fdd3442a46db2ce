use Rattle.std.proofs.Common.{◌≡◌, ◌+◌, length, replicate, if◌then◌else◌}
use Rattle.vs_four.specs.declared.Bit4.TheVariants.{X, Zero}
use Rattle.vs_plane.specs.Kernels.{Fills}
use Rattle.vs_kern_arith.proofs.products.clear.Given as goal

abbrev pub invariant-loop-slot : goal.invariant-loop-slot
invariant-loop-slot g l = record {
  fills : Fills g.W.Word.lane g.W.Word.LANES (λ i. replicate (length l.to) (if g.W.Word.lane l.fn.unknown i then X else Zero)) l.to l.slot-index l.initial.file l.file;
  ticked : l.steps ≡ l.initial.steps + l.slot-index;
}
