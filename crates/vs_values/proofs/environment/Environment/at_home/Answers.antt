use Rattle.vs_values.proofs.Environments.{none_moved}
use Rattle.vs_values.proofs.environment.Environment.at_home.Goals as goal

pub returns : goal.returns
returns c = none_moved c.args.bits c.new.result c.new.ensures.empty
