use Rattle.std.proofs.Common.{refl}
use Rattle.vs_flat.proofs.laws.rows_law.Goals as goal

pub returns : goal.returns
returns c = record {
  copies = (refl, refl, refl, refl, refl, refl);
  targets = (refl, refl, refl, refl, refl, refl, refl);
  names = (refl, refl, refl, refl, refl);
  chains = (refl, refl, refl);
}
