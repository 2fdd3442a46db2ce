use Rattle.vs_design.proofs.MemoryLaws.{words_are}
use Rattle.vs_design.proofs.memory_law.Goals as goal

pub returns : goal.returns
returns c = words_are
