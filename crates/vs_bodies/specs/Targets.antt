-- What a target names.
use Rattle.std.specs.Prelude.{◌≡◌}
use Rattle.vs_const.specs.Faults.{least}
use Rattle.vs_const.specs.Selects as selects
use Rattle.vs_bodies.specs.declared.targets.Base.{Base}

-- what a target takes bits of, but for the bits
pub record IsBase (c : Base) (b : selects.Base) : Type 0 where
  pub range : c.range ≡ b.range
  pub fault : c.fault ≡ least b.faults
