use Rattle.vs_design.proofs.ExampleMemoryLaws.{memories_computed}
use Rattle.vs_design.proofs.memory_examples.Goals as goal

pub returns : goal.returns
returns c = memories_computed
