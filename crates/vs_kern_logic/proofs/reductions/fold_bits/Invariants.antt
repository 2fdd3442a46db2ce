use Rattle.std.proofs.Common.{◌≡◌, ℕ, ◌<◌, drop}
use Rattle.vs_plane.specs.Lanes.{pair_lane}
use Rattle.vs_kern_logic.specs.Gates.{first_bit, fold_bit}
use Rattle.vs_kern_logic.proofs.Folds.{rest}
use Rattle.vs_kern_logic.proofs.reductions.fold_bits.Given as goal

-- what is left makes of the bit so far what the whole makes of the first one
abbrev pub invariant-loop-slot : goal.invariant-loop-slot
invariant-loop-slot g l = (i : ℕ) → i < g.W.Word.LANES → rest g.W.Word.lane l.file i (fold_bit l.fold) (pair_lane g.W.Word.lane l.pair i) (drop l.slot-index l.a) ≡ rest g.W.Word.lane l.file i (fold_bit l.fold) (first_bit l.fold) l.a
