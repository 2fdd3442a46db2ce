use Rattle.std.proofs.Common.{map, ap, ◌∙◌}
use Rattle.std.proofs.lemmas.List.{take_all}
use Rattle.vs_zero.specs.Starts.{idle_of}
use Rattle.vs_sets.specs.Tables.{beyond}
use Rattle.vs_sets.proofs.Families.{any_default}
use Rattle.vs_zero.proofs.Starting.{value_more}
use Rattle.vs_zero.proofs.starts.idle_each.Goals as goal

pub loop-bit-preserved : goal.loop-bit-preserved
loop-bit-preserved c =
    let bit = c.loop-bit.bit in
    value_more idle_of c.args.sets.now c.loop-bit.values.items _ bit beyond c.idle_value.result c.loop-bit-test.true
    (c.idle_value.ensures ∙ ap idle_of (c.index-sets-bit.is ∙ any_default c.args.sets.now bit c.index-sets-bit.result beyond c.loop-bit-test.true)) c.loop-bit.invariant c.in_ok-push.ensures.items

pub returns : goal.returns
returns c = c.loop-bit.invariant ∙ ap (map idle_of) (take_all c.loop-bit.bit c.args.sets.now c.loop-bit-test.false)
