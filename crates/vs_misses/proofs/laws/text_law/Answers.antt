use Rattle.vs_misses.proofs.Texts.{text_reads_back}
use Rattle.vs_misses.proofs.laws.text_law.Goals as goal

pub returns : goal.returns
returns c = text_reads_back
