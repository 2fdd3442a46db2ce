use Rattle.vs_values.proofs.Environments.{set_moved}
use Rattle.vs_values.proofs.environment.Environment.set.Goals as goal

pub returns : goal.returns
returns c = set_moved c.self.inside.bits c.self.inside.housed c.self.inside.moved c.insert.new.self c.args.self.now c.args.bit c.args.slot c.self.view_is c.requires c.in_ok-insert.ensures.updates
