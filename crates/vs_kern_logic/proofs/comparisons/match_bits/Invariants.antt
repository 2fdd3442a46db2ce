use Rattle.std.proofs.Common.{◌≡◌, ℕ, ◌<◌, drop}
use Rattle.vs_four.specs.declared.Bit4.TheVariants.{One}
use Rattle.vs_plane.specs.Lanes.{pair_lane}
use Rattle.vs_kern_logic.specs.Gates.{gate_bit}
use Rattle.vs_kern_logic.proofs.Folds.{rest_of_two}
use Rattle.vs_kern_logic.proofs.comparisons.match_bits.Given as goal

-- what is left makes of the bit so far what the whole makes of 1
abbrev pub invariant-loop-k : goal.invariant-loop-k
invariant-loop-k g l = (i : ℕ) → i < g.W.Word.LANES → rest_of_two g.W.Word.lane l.file i (gate_bit l.gate) (pair_lane g.W.Word.lane l.pair i) (drop l.k l.a) (drop l.k l.b) ≡ rest_of_two g.W.Word.lane l.file i (gate_bit l.gate) One l.a l.b
