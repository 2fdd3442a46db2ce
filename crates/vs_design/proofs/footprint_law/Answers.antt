use Rattle.vs_design.proofs.Named.{bits_of_design, star_misses_none, ascending_has, ascending_rises}
use Rattle.vs_design.proofs.footprint_law.Goals as goal

pub returns : goal.returns
returns c = record { bits = bits_of_design; star = star_misses_none; ascending = ascending_has; rises = ascending_rises }
