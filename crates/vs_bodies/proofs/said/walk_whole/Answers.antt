use Rattle.std.proofs.Common.{◌≡◌, ◌<◌, false, IfOk, IfErr, subst}
use Rattle.vs_ast.specs.Views as view
use Rattle.vs_bodies.specs.Bodies.{body_of}
use Rattle.vs_bodies.specs.Told.{Over}
use Rattle.vs_bodies.proofs.Walking.{tells_is}
use Rattle.vs_bodies.proofs.said.walk_whole.Goals as goal

pub returns-clause-told : goal.returns-clause-told
returns-clause-told g c =
    subst (λ z. IfOk c.walk.result (λ w. w ≡ z)) (tells_is false (view.statement c.args.s.now) (body_of c.args.kind c.args.unrolls (g.S.Surroundings.declared c.args.around.now)) (g.S.Env.names c.args.around.now)) c.walk.ensures.told

pub returns-clause-over : goal.returns-clause-over
returns-clause-over g c =
    subst (λ z. IfErr c.walk.result (λ e. e ≡ Over → c.args.most < z.count)) (tells_is false (view.statement c.args.s.now) (body_of c.args.kind c.args.unrolls (g.S.Surroundings.declared c.args.around.now)) (g.S.Env.names c.args.around.now)) c.walk.ensures.over
