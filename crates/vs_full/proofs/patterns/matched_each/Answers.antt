use Rattle.std.proofs.Common.{[], ◌∷◌}
use Rattle.vs_design.specs.Covers.{matched}
use Rattle.vs_sets.proofs.Steps.{moved, map_step}
use Rattle.vs_full.proofs.patterns.matched_each.Goals as goal

pub loop-k-preserved : goal.loop-k-preserved
loop-k-preserved c =
    rw (c.push.ensures, c.matched.ensures) (moved c.loop-k.list (matched c.args.kind c.get.result ∷ []) _ _ _ c.loop-k.invariant (map_step (matched c.args.kind) c.args.value c.loop-k.k c.get.result c.get.ensures))
