use Rattle.vs_ast.specs.Views as view
use Rattle.vs_elaborated.specs.Functions.{declared_locals}
use Rattle.vs_scope.proofs.inside.function_reads.Goals as goal

pub invariant_of-here : goal.invariant_of-here
invariant_of-here c = record { kept = c.requires }

pub returns : goal.returns
returns c = c.signals_read.ensures (declared_locals (view.function c.args.f.now)) c.in_ok-own.ensures
