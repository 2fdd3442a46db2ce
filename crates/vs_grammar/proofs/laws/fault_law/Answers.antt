use Rattle.vs_grammar.proofs.Whole.{only_fault}
use Rattle.vs_grammar.proofs.Whole.{derived_has_none}
use Rattle.vs_grammar.proofs.laws.fault_law.Goals as goal

pub returns-clause-one : goal.returns-clause-one
returns-clause-one c = only_fault

pub returns-clause-none : goal.returns-clause-none
returns-clause-none c = derived_has_none
