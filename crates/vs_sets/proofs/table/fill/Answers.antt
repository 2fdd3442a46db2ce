use Rattle.std.proofs.Common.{◌<◌, length, get_or, refl, ap, ◌∙◌, arith}
use Rattle.std.proofs.lemmas.Grind.{common_steps}
use Rattle.std.proofs.lemmas.List.{take_all}
use Rattle.vs_sets.specs.Branches.{replaced}
use Rattle.vs_sets.specs.Tables.{family_of}
use Rattle.vs_sets.proofs.BranchSteps.{replace_step}
use Rattle.vs_sets.proofs.table.fill.Goals as goal

pub loop-i-preserved : goal.loop-i-preserved
loop-i-preserved c =
    let bits = c.args.bits.now in
    let i = c.loop-i.i in
    let within : get_or bits i 0 < length c.loop-i.table = grind (arith, common_steps, c.requires, c.loop-i.auto.table) in
    replace_step c.loop-i.table bits i c.args.set (λ b. c.args.set) (family_of c.args.table.now) c.loop-i-test.true within c.loop-i.invariant refl

pub returns : goal.returns
returns c = c.loop-i.invariant ∙ ap (λ bs. replaced bs (λ b. c.args.set) (family_of c.args.table.now)) (take_all c.loop-i.i c.args.bits.now c.loop-i-test.false)
