use Rattle.std.proofs.Common.{◌∷◌, ◌++◌, [], map, ap, ap₂, ◌∙◌}
use Rattle.vs_events.specs.declared.beginning.Role.TheVariants as R
use Rattle.vs_events.specs.Beginning.{is_block}
use Rattle.vs_events.proofs.BeginningSteps.{take_map, take_all}
use Rattle.vs_events.proofs.beginning.block_flags.Goals as goal

pub loop-k-preserved : goal.loop-k-preserved
loop-k-preserved c = c.in_ok-push.ensures.items ∙ ap₂ (λ bs b. bs ++ b ∷ []) c.loop-k.invariant c.is_block.ensures ∙ take_map is_block c.args.roles.now c.loop-k.k R.Assign c.loop-k-test.true

pub returns : goal.returns
returns c = c.loop-k.invariant ∙ ap (map is_block) (take_all c.args.roles.now c.loop-k.k c.loop-k-test.false)
