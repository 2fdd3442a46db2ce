use Rattle.vs_ast.specs.Views as view
use Rattle.vs_bodies.proofs.Saying.{said_unrolled}
use Rattle.vs_bodies.proofs.said.check_statement.Goals as goal

pub returns-in-Ok : goal.returns-in-Ok
returns-in-Ok g c =
    said_unrolled c.args.most (view.statement c.args.s.now) c.args.kind (g.S.Surroundings.declared c.args.around.now) (g.S.Env.names c.args.around.now) c.said.result c.in-Ok.told
    (record { fault = c.said.ensures.fault; copies = c.said.ensures.copies; depth = c.said.ensures.depth }) c.in-Ok.ensures.told c.in-Ok.ensures.within
