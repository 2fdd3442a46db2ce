use Rattle.std.proofs.Common.{List, ap, ◌∙◌}
use Rattle.std.proofs.lemmas.List.{take_all}
use Rattle.vs_design.specs.Expressions.{Signal}
use Rattle.vs_build.specs.Growth.{draft}
use Rattle.vs_scope.specs.declared.names.LocalSignal.{LocalSignal}
use Rattle.vs_scope.specs.Locals.{local_meaning}
use Rattle.vs_elab.specs.Functions.{signals_of}
use Rattle.vs_elab.specs.Opening.{and_signals}
use Rattle.vs_elab.proofs.SignalsFollow.{signals_nothing, signals_more, next_follows}
use Rattle.vs_elab.proofs.scoped.add_variables.Goals as goal

abbrev variable : LocalSignal → Signal
variable s = (local_meaning s).signal

pub loop-s-init : goal.loop-s-init
loop-s-init c = signals_nothing (draft c.args.builder.now)

pub loop-s-preserved : goal.loop-s-preserved
loop-s-preserved c =
    signals_more variable (draft c.args.builder.now) (draft c.loop-s.builder) (draft c.add_variable.new.builder) c.args.signals.now c.loop-s.s-index c.s-item.result c.loop-s-test.true c.s-item.is c.loop-s.invariant c.in_ok-add_variable.ensures

pub add_variable-requires-clause-number : goal.add_variable-requires-clause-number
add_variable-requires-clause-number c = (next_follows variable (draft c.args.builder.now) (draft c.loop-s.builder) c.args.signals.now c.loop-s.s-index c.s-item.result c.loop-s-test.true c.s-item.is c.loop-s.invariant c.requires).number

pub add_variable-requires-clause-scope : goal.add_variable-requires-clause-scope
add_variable-requires-clause-scope c = (next_follows variable (draft c.args.builder.now) (draft c.loop-s.builder) c.args.signals.now c.loop-s.s-index c.s-item.result c.loop-s-test.true c.s-item.is c.loop-s.invariant c.requires).scope

pub add_variable-requires-clause-bits : goal.add_variable-requires-clause-bits
add_variable-requires-clause-bits c = (next_follows variable (draft c.args.builder.now) (draft c.loop-s.builder) c.args.signals.now c.loop-s.s-index c.s-item.result c.loop-s-test.true c.s-item.is c.loop-s.invariant c.requires).bits

pub returns : goal.returns
returns c = c.loop-s.invariant ∙ ap (λ (xs : List LocalSignal). and_signals (draft c.args.builder.now) (signals_of xs)) (take_all c.loop-s.s-index c.args.signals.now c.loop-s-test.false)
