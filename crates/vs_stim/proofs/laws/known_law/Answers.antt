use Rattle.vs_stim.proofs.FirstVector.{first_known, has_vector}
use Rattle.vs_stim.proofs.KnownControls.{reading_controls}
use Rattle.vs_stim.proofs.VectorSizes.{reading_fits}
use Rattle.vs_stim.proofs.laws.known_law.Goals as goal

pub returns-clause-known : goal.returns-clause-known
returns-clause-known c = λ is text first later h. (first_known is text).known first later h

pub returns-clause-some : goal.returns-clause-some
returns-clause-some c = λ is text h. (has_vector is text).some h

pub returns-clause-fit : goal.returns-clause-fit
returns-clause-fit c = λ is text h. reading_fits is text h

pub returns-clause-controls : goal.returns-clause-controls
returns-clause-controls c = λ is text h. reading_controls is text h
