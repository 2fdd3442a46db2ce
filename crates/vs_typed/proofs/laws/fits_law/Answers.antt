use Rattle.vs_typed.proofs.Unrefused.{each_fits, each_initial, size_small}
use Rattle.vs_typed.proofs.laws.fits_law.Goals as goal

pub returns : goal.returns
returns c = record { fits = each_fits; initials = each_initial; small = size_small }
