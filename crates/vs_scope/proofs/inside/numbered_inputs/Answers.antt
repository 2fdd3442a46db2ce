use Rattle.std.proofs.Common.{get_or}
use Rattle.vs_bodies.proofs.MentionSteps.{item_is}
use Rattle.vs_scope.specs.Inside.{signal_of}
use Rattle.vs_scope.proofs.NumberedKeys.{none_numbered, one_numbered, all_numbered}
use Rattle.vs_scope.proofs.inside.numbered_inputs.Goals as goal

pub loop-i-init : goal.loop-i-init
loop-i-init c = none_numbered signal_of c.new-numbers.result c.args.passed.now c.new-numbers.ensures

pub loop-i-preserved : goal.loop-i-preserved
loop-i-preserved c =
    one_numbered signal_of c.loop-i.numbers c.add_input.new.numbers c.args.passed.now c.loop-i.i (get_or c.args.passed.now c.loop-i.i _) c.loop-i-test.true (item_is c.args.passed.now c.loop-i.i _ c.loop-i-test.true) (λ other. c.in_ok-add_input.ensures other) c.loop-i.invariant

pub returns : goal.returns
returns c = record { each = all_numbered signal_of c.loop-i.numbers c.args.passed.now c.loop-i.i c.loop-i-test.false c.loop-i.invariant }
