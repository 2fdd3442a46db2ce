use Rattle.vs_reads.proofs.Ascending.{each_of_its_process, each_has_its_bits}
use Rattle.vs_reads.proofs.laws.footprint_law.Goals as goal

pub returns-clause-lists : goal.returns-clause-lists
returns-clause-lists c = each_of_its_process

pub returns-clause-bits : goal.returns-clause-bits
returns-clause-bits c = each_has_its_bits c.footprint_law.ensures.ascending c.footprint_law.ensures.rises c.footprint_law.ensures.bits
