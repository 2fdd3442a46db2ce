use Rattle.std.proofs.Common.{◌<◌, length, get_or, take, ap, ap₂, ◌∙◌, arith}
use Rattle.std.proofs.lemmas.Grind.{common_steps}
use Rattle.std.proofs.lemmas.List.{take_all}
use Rattle.vs_four.specs.declared.Bit4.TheVariants.{X}
use Rattle.vs_design.specs.Lifted.{Family}
use Rattle.vs_design.specs.Sets.{only, union}
use Rattle.vs_design.specs.LiftedBodies.{either}
use Rattle.vs_sets.specs.Branches.{replaced}
use Rattle.vs_sets.specs.Tables.{beyond, family_of}
use Rattle.vs_sets.proofs.Families.{any_default}
use Rattle.vs_sets.proofs.BranchSteps.{replace_step, united}
use Rattle.vs_zero.proofs.bits.add_x.Goals as goal

pub loop-i-preserved : goal.loop-i-preserved
loop-i-preserved c =
    let bits = c.args.bits.now in
    let i = c.loop-i.i in
    let y = c.index-table-bit.result in
    let other : Family = λ b. only X in
    let after = family_of c.args.table.now in
    let within : get_or bits i 0 < length c.loop-i.table = grind (arith, common_steps, c.requires, c.loop-i.auto.table) in
    let b = get_or bits i 0 in
    let right = c.index-table-bit.is ∙ any_default c.loop-i.table b y beyond within ∙ ap (λ f. f b) c.loop-i.invariant in
    replace_step c.loop-i.table bits i c.union.result (either other after) after c.loop-i-test.true within c.loop-i.invariant
    (c.union.ensures ∙ ap₂ union c.only.ensures right ∙ united (take i bits) b other after)

pub returns : goal.returns
returns c = c.loop-i.invariant ∙ ap (λ bs. replaced bs (either (λ b. only X) (family_of c.args.table.now)) (family_of c.args.table.now)) (take_all c.loop-i.i c.args.bits.now c.loop-i-test.false)
