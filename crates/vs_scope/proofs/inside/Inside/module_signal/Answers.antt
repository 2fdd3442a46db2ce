use Rattle.std.proofs.Common.{subst}
use Rattle.vs_const.specs.Meanings.{IsShapeIn}
use Rattle.vs_scope.specs.Locals.{input_of}
use Rattle.vs_scope.proofs.HandedOn.{passed_none, passed_some}
use Rattle.vs_scope.proofs.inside.Inside.module_signal.Goals as goal

pub returns-in-None : goal.returns-in-None
returns-in-None c = let o = input_of c.args.self.now.locals c.args.number in passed_none o (subst (λ s. IsShapeIn s o) c.in-None.is c.input.ensures)

pub returns-in-Some : goal.returns-in-Some
returns-in-Some c = let o = input_of c.args.self.now.locals c.args.number in passed_some c.in-Some.input o (subst (λ s. IsShapeIn s o) c.in-Some.is c.input.ensures)
