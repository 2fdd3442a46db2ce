use Rattle.vs_stim.proofs.Marked.{marked_exact}
use Rattle.vs_stim.proofs.wanted.Wanted.exactly.Goals as goal

pub returns : goal.returns
returns c = marked_exact c.args.bits
