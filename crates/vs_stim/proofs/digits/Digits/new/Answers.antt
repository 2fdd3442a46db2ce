use Rattle.std.proofs.Common.{refl}
use Rattle.vs_four.specs.Planes.{bits_of_planes}
use Rattle.vs_stim.proofs.digits.Digits.new.Goals as goal

pub returns : goal.returns
unfolding bits_of_planes
returns c = refl
