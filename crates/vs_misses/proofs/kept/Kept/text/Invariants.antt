use Rattle.vs_misses.specs.Texts.{wanted_text}
use Rattle.vs_misses.proofs.Texts.{IsWritten}
use Rattle.vs_misses.proofs.kept.Kept.text.Given as goal

abbrev pub invariant-loop-n : goal.invariant-loop-n
invariant-loop-n l = IsWritten (wanted_text l.self) l.n l.bytes
