use Rattle.std.proofs.Common.{ap}
use Rattle.vs_stim.specs.Wanted.{marked}
use Rattle.vs_stim.proofs.wanted.WantedDigits.new.Goals as goal

pub returns : goal.returns
unfolding marked
returns c = ap (λ bits. marked bits 0) c.new.ensures
