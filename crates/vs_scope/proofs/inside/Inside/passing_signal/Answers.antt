use Rattle.std.proofs.Common.{sym, ap, subst}
use Rattle.vs_const.specs.Meanings.{Means}
use Rattle.vs_scope.specs.Locals.{input_of}
use Rattle.vs_scope.proofs.HandedOn.{is_own, own_passing, signal_passing}
use Rattle.vs_scope.proofs.inside.Inside.passing_signal.Goals as goal

pub returns-in-InModule : goal.returns-in-InModule
returns-in-InModule c = λ m h. subst (Means c.module_signal.result) (sym (signal_passing (input_of c.args.self.now.locals) c.args.s m h c.in-InModule.is)) c.module_signal.ensures

pub returns-in-InFunction : goal.returns-in-InFunction
returns-in-InFunction c = λ m h. own_passing (input_of c.args.self.now.locals) c.args.s m h (ap is_own c.in-InFunction.is)

pub returns-in-AsResult : goal.returns-in-AsResult
returns-in-AsResult c = λ m h. own_passing (input_of c.args.self.now.locals) c.args.s m h (ap is_own c.in-AsResult.is)
