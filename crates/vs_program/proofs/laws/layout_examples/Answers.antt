use Rattle.std.proofs.Common.{refl}
use Rattle.vs_program.proofs.laws.layout_examples.Goals as goal

pub returns : goal.returns
returns c = record {
  chain_first = refl;
  chain_slots = refl;
  reset_shadow = refl;
  reset_first = refl;
  reset_widest = refl;
  reset_slots = refl;
  asleep = refl;
  sleeper_shadow = refl;
  sleeper_mask = refl;
  sleeper_first = refl;
  sleeper_slots = refl;
}
