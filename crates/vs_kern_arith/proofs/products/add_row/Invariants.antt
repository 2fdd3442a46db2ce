use Rattle.std.proofs.Common.{◌≡◌, ℕ, ◌+◌, ◌<◌, false}
use Rattle.vs_plane.specs.Kernels.{lane_bits, Fills}
use Rattle.vs_kern_arith.specs.Digits.{digits, sum_carry}
use Rattle.vs_kern_arith.specs.Rows.{row_digits, row_added}
use Rattle.vs_kern_arith.proofs.products.add_row.Given as goal

abbrev pub invariant-loop-j : goal.invariant-loop-j
invariant-loop-j g l = record {
  fills : Fills g.W.Word.lane g.W.Word.LANES (λ i. row_added (g.W.Word.lane l.unknown i) (g.W.Word.lane l.digit i) (lane_bits g.W.Word.lane l.initial.file l.a i) (lane_bits g.W.Word.lane l.initial.file l.to i)) l.to l.j l.initial.file l.file;
  ticked : l.steps ≡ l.initial.steps + l.j;
  carried : (i : ℕ) → i < g.W.Word.LANES → g.W.Word.lane l.carry i
      ≡ sum_carry (row_digits (g.W.Word.lane l.digit i) (lane_bits g.W.Word.lane l.initial.file l.a i)) (digits (lane_bits g.W.Word.lane l.initial.file l.to i)) false l.j;
}
