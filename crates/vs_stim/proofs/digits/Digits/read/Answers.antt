use Rattle.vs_stim.proofs.Ahead.{reads_both}
use Rattle.vs_stim.proofs.digits.Digits.read.Goals as goal

pub returns-clause-reads : goal.returns-clause-reads
returns-clause-reads c = reads_both _ _ _ _ _ _ c.read_eights-count.ensures.reads c.read_singly-more.ensures.reads
