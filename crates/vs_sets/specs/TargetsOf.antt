-- Expressions that are targets (IEEE 1364-2005, table 6-1), of which nothing is over 64 bits.
use Rattle.std.specs.Prelude.{◌≡◌, true, Some}
use Rattle.vs_design.specs.Expressions.{Expression, Source, OfSignal, OfConstant}
use Rattle.vs_design.specs.Statements.{Target}
use Rattle.vs_design.specs.Fits.{fits_target}
use Rattle.vs_flat.specs.Targets.{target_of}
use Rattle.vs_flat.specs.Trees as R

abbrev pub target_tree : Expression → Target
target_tree e = R.target_tree e

abbrev pub IsSignal : Source → Type 0
IsSignal (OfSignal signal) = Unit {0}
IsSignal (OfConstant bits) = ⊥

pub record IsTarget (e : Expression) : Type 0 where
  pub is : target_of e ≡ Some (target_tree e)
  pub fits : fits_target (target_tree e) ≡ true
