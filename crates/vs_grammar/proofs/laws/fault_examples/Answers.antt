use Rattle.vs_grammar.proofs.WorkedFaults.{faults_are}
use Rattle.vs_grammar.proofs.laws.fault_examples.Goals as goal

pub returns : goal.returns
returns c = faults_are
