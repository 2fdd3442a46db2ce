use Rattle.std.proofs.Common.{◌∙◌}
use Rattle.vs_stim.proofs.Marked.{view_length}
use Rattle.vs_stim.proofs.wanted.WantedDigits.len.Goals as goal

pub returns-clause-count : goal.returns-clause-count
returns-clause-count c = c.len.ensures.count ∙ view_length c.self.inside.bits c.self.inside.any c.args.self.now c.self.view_is
