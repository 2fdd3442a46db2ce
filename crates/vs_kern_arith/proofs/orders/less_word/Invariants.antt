use Rattle.std.proofs.Common.{◌≡◌, ℕ, ◌<◌, true}
use Rattle.vs_four.specs.Logic.{all_known}
use Rattle.vs_plane.specs.Kernels.{lane_bits}
use Rattle.vs_kern_arith.proofs.OrderLaws.{IsOrder}
use Rattle.vs_kern_arith.proofs.orders.less_word.Given as goal

abbrev pub invariant-loop-k : goal.invariant-loop-k
invariant-loop-k g l = (i : ℕ) → i < g.W.Word.LANES
    → all_known (lane_bits g.W.Word.lane l.file l.a i) ≡ true → all_known (lane_bits g.W.Word.lane l.file l.b i) ≡ true
    → IsOrder (lane_bits g.W.Word.lane l.file l.a i) (lane_bits g.W.Word.lane l.file l.b i) l.k (g.W.Word.lane l.word i)
