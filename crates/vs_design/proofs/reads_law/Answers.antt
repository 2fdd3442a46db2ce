use Rattle.vs_design.proofs.ReadValue.{value_reads}
use Rattle.vs_design.proofs.Blocks.{body_reads}
use Rattle.vs_design.proofs.reads_law.Goals as goal

pub returns : goal.returns
returns c = record { value = value_reads; body = body_reads }
