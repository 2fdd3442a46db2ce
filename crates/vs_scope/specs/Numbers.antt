-- What the code finds of declared ranges: of their faults the first.
use Rattle.std.specs.Prelude.{◌≡◌}
use Rattle.vs_const.specs.Faults.{least}
use Rattle.vs_elaborated.specs.Parameters as parameters
use Rattle.vs_scope.specs.declared.numbers.SaidRange.{SaidRange}

pub record IsSaidRange (c : SaidRange) (r : parameters.SaidRange) : Type 0 where
  pub range : c.range ≡ r.range
  pub known : c.known ≡ r.known
  pub fault : c.fault ≡ least r.faults
