use Rattle.vs_build.proofs.ItemFacts.{assigns_fine, wires_fine, blocks_fine, scoped_blocks_fine, initials_fine, functions_fine}
use Rattle.vs_build.proofs.laws.fine_law.Goals as goal

pub returns : goal.returns
returns c = record { assigns = assigns_fine; wires = wires_fine; blocks = blocks_fine; scoped = scoped_blocks_fine; initials = initials_fine; functions = functions_fine }
