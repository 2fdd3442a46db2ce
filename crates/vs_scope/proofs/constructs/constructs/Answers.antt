use Rattle.std.proofs.Common.{refl}
use Rattle.vs_scope.specs.Contents.{contents_items}
use Rattle.vs_scope.specs.Frames.{view_env}
use Rattle.vs_scope.proofs.MakingSteps.{making_start}
use Rattle.vs_scope.proofs.constructs.constructs.Goals as goal

pub returns : goal.returns
returns c = c.in_ok-make_contents.ensures c.args.turns _ (making_start _ (view_env c.args.here.now) (contents_items c.args.contents) c.new.ensures.items refl refl)
