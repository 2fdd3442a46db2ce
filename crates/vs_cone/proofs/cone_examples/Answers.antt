use Rattle.vs_net.specs.Network.{flatten, is_written}
use Rattle.std.proofs.Common.{refl}
use Rattle.vs_cone.proofs.cone_examples.Goals as goal

pub returns : goal.returns
unfolding flatten is_written
returns c = record {
  chain_first = refl;
  chain_fall = refl;
  chain_rise = refl;
  instance_first = refl;
  instance_fall = refl;
  instance_rise = refl;
  instance_clocked = refl;
  sleeper_data = refl;
  sleeper_first = refl;
  sleeper_fall = refl;
  sleeper_rise = refl;
  reset_sets = refl;
  port_reset_sets = refl;
  port_reset_fall = refl;
  port_reset_rise = refl;
}
