use Rattle.vs_ast.specs.Views as view
use Rattle.vs_bodies.proofs.Declaring.{AreAdded}
use Rattle.vs_bodies.proofs.blocks.add_variables.Given as goal

abbrev pub invariant-loop-n : goal.invariant-loop-n
invariant-loop-n l = AreAdded (view.value_type l.v.value_type) l.n-items l.fn.map l.map l.n-index l.fault
