use Rattle.vs_design.proofs.SetCalls.{value_in}
use Rattle.vs_design.proofs.SetStatement.{body_in}
use Rattle.vs_design.proofs.SetReads.{lifted_reads}
use Rattle.vs_design.proofs.SetReadsBody.{body_sets_read}
use Rattle.vs_design.proofs.sets_law.Goals as goal

pub returns : goal.returns
returns c = record { value = value_in; body = body_in; value_reads = lifted_reads; body_reads = body_sets_read }
