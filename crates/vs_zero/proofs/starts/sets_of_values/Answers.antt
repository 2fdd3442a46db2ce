use Rattle.std.proofs.Common.{map, ap, ◌∙◌}
use Rattle.std.proofs.lemmas.List.{take_all}
use Rattle.vs_four.specs.declared.Bit4.TheVariants.{Zero}
use Rattle.vs_design.specs.Sets.{only}
use Rattle.vs_zero.proofs.Starting.{value_more}
use Rattle.vs_zero.proofs.starts.sets_of_values.Goals as goal

pub loop-bit-preserved : goal.loop-bit-preserved
loop-bit-preserved c = value_more only c.args.values.now c.loop-bit.sets.items _ c.loop-bit.bit Zero c.only.result c.loop-bit-test.true c.only.ensures c.loop-bit.invariant c.in_ok-push.ensures.items

pub returns : goal.returns
returns c = c.loop-bit.invariant ∙ ap (map only) (take_all c.loop-bit.bit c.args.values.now c.loop-bit-test.false)
