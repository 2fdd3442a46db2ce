use Rattle.std.proofs.Common.{◌+◌, Bool, if◌then◌else◌, refl, ap, ◌∙◌}
use Rattle.vs_ast.specs.Views as view
use Rattle.vs_scope.specs.Frames.{view_env}
use Rattle.vs_scope.proofs.MakingSteps.{making_more}
use Rattle.vs_scope.proofs.constructs.Making.make.Goals as goal

pub returns : goal.returns
returns c = λ before rest all h.
    making_more c.args.self.now _ (view_env c.args.here.now) before c.in_ok-m.m (view.item c.args.item.now) rest all h c.in_ok-m.ensures c.in_ok-push.ensures.items c.first_of-self.ensures
    (c.in_ok-self.ensures ∙ ap (λ (b : Bool). if b then c.args.self.now.number + 1 else c.args.self.now.number) c.is_construct.ensures) refl
