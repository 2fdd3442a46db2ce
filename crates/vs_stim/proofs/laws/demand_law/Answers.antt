use Rattle.vs_stim.proofs.Demanded.{same_reading, same_header, header_named, header_lacking, header_refused}
use Rattle.vs_stim.proofs.laws.demand_law.Goals as goal

pub returns-clause-same : goal.returns-clause-same
returns-clause-same c = λ ports text n. same_reading ports text n

pub returns-clause-headers : goal.returns-clause-headers
returns-clause-headers c = λ ports text n. same_header ports text n

pub returns-clause-named : goal.returns-clause-named
returns-clause-named c = λ ports text e. header_named ports text e

pub returns-clause-lacking : goal.returns-clause-lacking
returns-clause-lacking c = λ ports text e n. header_lacking ports text e n

pub returns-clause-only : goal.returns-clause-only
returns-clause-only c = λ ports text e. header_refused ports text e
