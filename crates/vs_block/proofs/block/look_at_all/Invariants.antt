use Rattle.vs_full.specs.Found.{AreSound}
use Rattle.vs_block.proofs.Looking.{AreLooked}
use Rattle.vs_block.proofs.block.look_at_all.Given as goal

abbrev pub invariant-loop-p : goal.invariant-loop-p
invariant-loop-p l = record { sound : AreSound l.typed l.cases; looked : AreLooked l.typed l.cases l.p }
