use Rattle.vs_grammar.proofs.SpelledFacts.{one_source, one_source_of_tokens}
use Rattle.vs_grammar.proofs.SpelledFacts.{spelled_has_no_fault}
use Rattle.vs_grammar.proofs.SpelledFacts.{one_fault_of_tokens}
use Rattle.vs_grammar.proofs.SpelledFacts.{spelled_is_shallow}
use Rattle.vs_grammar.proofs.laws.spelled_law.Goals as goal

pub returns-clause-one : goal.returns-clause-one
returns-clause-one c = one_source

pub returns-clause-none : goal.returns-clause-none
returns-clause-none c = spelled_has_no_fault

pub returns-clause-fault : goal.returns-clause-fault
returns-clause-fault c = one_fault_of_tokens

pub returns-clause-shallow : goal.returns-clause-shallow
returns-clause-shallow c = spelled_is_shallow

pub returns-clause-same : goal.returns-clause-same
returns-clause-same c = one_source_of_tokens
