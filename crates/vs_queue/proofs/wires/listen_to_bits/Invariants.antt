use Rattle.vs_queue.specs.Listens.{to_bit}
use Rattle.vs_queue.proofs.Listened.{AreTold}
use Rattle.vs_queue.proofs.wires.listen_to_bits.Given as goal

abbrev pub invariant-loop-bit : goal.invariant-loop-bit
invariant-loop-bit l = AreTold (to_bit l.p) l.bits l.initial.wiring l.wiring l.bit-index
