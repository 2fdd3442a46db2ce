use Rattle.vs_queue.proofs.Flags.{AreFlagged}
use Rattle.vs_queue.proofs.first.flag_bits.Given as goal

abbrev pub invariant-loop-bit : goal.invariant-loop-bit
invariant-loop-bit l = AreFlagged l.bits l.initial.flags.items l.flags.items l.bit-index
