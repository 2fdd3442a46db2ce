use Rattle.std.proofs.Common.{subst}
use Rattle.std.proofs.lemmas.List.{take_all}
use Rattle.vs_design.specs.Rules.{times}
use Rattle.vs_driver.proofs.Writing.{AddsEach, none_added, added_one}
use Rattle.vs_driver.proofs.writers.with_each.Goals as goal

pub loop-other-init : goal.loop-other-init
loop-other-init c = none_added c.args.so_far c.args.x

pub loop-other-preserved : goal.loop-other-preserved
loop-other-preserved c = added_one c.args.so_far c.loop-other.writers c.with_one-writers.result c.args.x c.args.bit c.args.bits.now c.loop-other.other-index c.loop-other-test.true c.with_one-writers.ensures c.loop-other.invariant

pub returns : goal.returns
returns c = subst (λ bs. AddsEach c.args.so_far c.loop-other.writers c.args.x (times c.args.bit bs)) (take_all c.loop-other.other-index c.args.bits.now c.loop-other-test.false) c.loop-other.invariant
