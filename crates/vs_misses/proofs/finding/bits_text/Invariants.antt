use Rattle.vs_misses.specs.Texts.{bits_text}
use Rattle.vs_misses.proofs.Texts.{IsWritten}
use Rattle.vs_misses.proofs.finding.bits_text.Given as goal

abbrev pub invariant-loop-n : goal.invariant-loop-n
invariant-loop-n l = IsWritten (bits_text l.bits) l.n l.bytes
