use Rattle.vs_net.specs.Network.{write_all, flatten, is_written}
use Rattle.std.proofs.Common.{refl}
use Rattle.vs_reset.proofs.call_examples.Goals as goal

pub returns : goal.returns
unfolding write_all flatten is_written
returns c = record {
  rising = refl;
  rising_stores = refl;
  falling = refl;
  asleep = refl;
  asleep_stores = refl;
}
