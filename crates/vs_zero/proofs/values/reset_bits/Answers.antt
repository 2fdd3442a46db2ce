use Rattle.std.proofs.Common.{◌<◌, length, get_or, refl, ap, ◌∙◌, arith}
use Rattle.std.proofs.lemmas.Grind.{common_steps}
use Rattle.std.proofs.lemmas.List.{take_all}
use Rattle.vs_zero.specs.States.{state_of}
use Rattle.vs_zero.specs.Values.{replaced_by}
use Rattle.vs_zero.proofs.Valued.{state_step}
use Rattle.vs_zero.proofs.values.reset_bits.Goals as goal

pub loop-i-preserved : goal.loop-i-preserved
loop-i-preserved c =
    let bits = c.args.bits.now in
    let i = c.loop-i.i in
    let within : get_or bits i 0 < length c.loop-i.state = grind (arith, common_steps, c.requires, c.loop-i.auto.state) in
    state_step c.loop-i.state bits i c.args.value (λ b. c.args.value) (state_of c.args.state.now) c.loop-i-test.true within c.loop-i.invariant refl

pub returns : goal.returns
returns c = c.loop-i.invariant ∙ ap (λ bs. replaced_by bs (λ b. c.args.value) (state_of c.args.state.now)) (take_all c.loop-i.i c.args.bits.now c.loop-i-test.false)
