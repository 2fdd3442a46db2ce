use Rattle.vs_stim.proofs.Ahead.{planes_count}
use Rattle.vs_stim.proofs.digits.Digits.len.Goals as goal

pub returns-clause-count : goal.returns-clause-count
returns-clause-count c = planes_count c.self.inside.len c.self.inside.value c.self.inside.unknown c.args.self.now c.self.view_is
