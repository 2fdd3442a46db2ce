use Rattle.vs_values.proofs.Environments.{local_moved}
use Rattle.vs_values.proofs.environment.Environment.at_call.Goals as goal

pub returns : goal.returns
returns c = local_moved c.args.inputs c.args.others c.new.result c.new.ensures.empty
