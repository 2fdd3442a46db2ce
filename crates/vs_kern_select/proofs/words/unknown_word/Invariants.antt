use Rattle.std.proofs.Common.{◌≡◌, ◌+◌, length, replicate}
use Rattle.vs_four.specs.declared.Bit4.TheVariants.{X}
use Rattle.vs_plane.specs.Kernels.{Fills}
use Rattle.vs_kern_select.proofs.words.unknown_word.Given as goal

abbrev pub invariant-loop-slot : goal.invariant-loop-slot
invariant-loop-slot g l = record {
  fills : Fills g.W.Word.lane g.W.Word.LANES (λ i. replicate (length l.to) X) l.to l.slot-index l.initial.file l.file;
  ticked : l.steps ≡ l.initial.steps + l.slot-index;
}
