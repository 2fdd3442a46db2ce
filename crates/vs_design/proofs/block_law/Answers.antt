use Rattle.vs_design.proofs.Blocks.{block_writes, block_reads}
use Rattle.vs_design.proofs.block_law.Goals as goal

pub returns : goal.returns
returns c = record { writes = block_writes; reads = block_reads }
