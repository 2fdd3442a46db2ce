use Rattle.std.proofs.Common.{◌++◌, ◌∷◌, [], List, ap, ◌∙◌}
use Rattle.vs_flat.specs.DesignOf.{design_of}
use Rattle.vs_events.specs.declared.beginning.Role.{Role}
use Rattle.vs_events.specs.declared.beginning.Role.TheVariants as R
use Rattle.vs_queue.proofs.Spares.{keeper_more, keeper_same}
use Rattle.vs_queue.proofs.first.all_roles.Goals as goal

pub returns-then-keeper : goal.returns-then-keeper
returns-then-keeper c = c.in_ok-push.ensures.items ∙ ap (λ (rs : List Role). rs ++ R.Block ∷ []) c.in_ok-roles.ensures ∙ keeper_more (design_of c.args.flat.now) c.args.clocks.now c.args.keeper c.requires.keeper c.if-keeper.true

pub returns : goal.returns
returns c = c.in_ok-roles.ensures ∙ keeper_same (design_of c.args.flat.now) c.args.clocks.now c.args.keeper c.requires.keeper c.if-keeper.false
