use Rattle.std.proofs.Common.{sym, subst}
use Rattle.vs_items.specs.Loops.{AreKnown}
use Rattle.vs_items.proofs.LoopSteps.{more_known}
use Rattle.vs_items.proofs.loops.Loops.add_head.Goals as goal

pub invariant_of-self-in-Ok : goal.invariant_of-self-in-Ok
invariant_of-self-in-Ok c =
    subst (AreKnown c.insert.new.self.keys) (sym c.in_ok-push.ensures.items) (more_known c.self.inside.known.keys c.insert.new.self.keys c.self.inside.headed.items c.args.i c.in-Ok.ensures.keys c.self.invariant)
