use Rattle.vs_ast.specs.Views as view
use Rattle.vs_elaborated.specs.Limits.{the_limits}
use Rattle.vs_items.proofs.ItemLists.{made_at}
use Rattle.vs_items.proofs.BodyFaults.{one_found}
use Rattle.vs_items.proofs.bodies.one_fault.Goals as goal

pub returns-clause-fault : goal.returns-clause-fault
returns-clause-fault c = λ source around made a names same.
    one_found the_limits source around c.args.loops.now (view.item c.args.item.now) made _ same (c.in_ok-fault.ensures.fault source around (made_at made 0) a names)
