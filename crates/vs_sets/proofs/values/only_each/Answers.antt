use Rattle.std.proofs.Common.{[], ◌∷◌}
use Rattle.vs_design.specs.Sets.{only}
use Rattle.vs_sets.proofs.Steps.{moved, map_step}
use Rattle.vs_sets.proofs.values.only_each.Goals as goal

pub loop-n-preserved : goal.loop-n-preserved
loop-n-preserved c =
    rw (c.push.ensures, c.only.ensures) (moved c.loop-n.list (only c.get.result ∷ []) _ _ _ c.loop-n.invariant (map_step only c.args.bits c.loop-n.n c.get.result c.get.ensures))
