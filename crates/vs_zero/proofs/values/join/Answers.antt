use Rattle.std.proofs.Common.{◌<◌, length, get_or, take, ap, ap₂, ◌∙◌, arith}
use Rattle.std.proofs.lemmas.Grind.{common_steps}
use Rattle.std.proofs.lemmas.List.{take_all}
use Rattle.vs_four.specs.declared.Bit4.TheVariants.{X, Zero}
use Rattle.vs_design.specs.Lifted.{Family}
use Rattle.vs_sets.specs.Branches.{replaced}
use Rattle.vs_sets.specs.Tables.{beyond, family_of}
use Rattle.vs_zero.specs.States.{state_of}
use Rattle.vs_zero.specs.Values.{joined}
use Rattle.vs_sets.proofs.BranchSteps.{replace_step}
use Rattle.vs_sets.proofs.Families.{any_default}
use Rattle.vs_zero.proofs.Valued.{any_bit, joined_here}
use Rattle.vs_zero.proofs.values.join.Goals as goal

pub loop-i-preserved : goal.loop-i-preserved
loop-i-preserved c =
    let bits = c.args.bits.now in
    let i = c.loop-i.i in
    let b = get_or bits i 0 in
    let g = family_of c.args.table.now in
    let x = state_of c.args.from_x.now in
    let z = state_of c.args.from_zero.now in
    let f : Family = λ b. joined (x b) (z b) (g b) in
    let within : b < length c.loop-i.table = grind (arith, common_steps, c.requires.within, c.loop-i.auto.table) in
    let in_x : b < length c.args.from_x.now = omega (arith, within, c.loop-i.auto.table, c.requires.x_count) in
    let in_z : b < length c.args.from_zero.now = omega (arith, within, c.loop-i.auto.table, c.requires.zero_count) in
    let old = c.index-table-bit.is ∙ any_default c.loop-i.table b c.index-table-bit.result beyond within ∙ ap (λ h. h b) c.loop-i.invariant in
    replace_step c.loop-i.table bits i c.joined.result f g c.loop-i-test.true within c.loop-i.invariant
    (c.joined.ensures
    ∙ ap₂ (λ v w. joined v w c.index-table-bit.result) (any_bit c.args.from_x.now b Zero X in_x) (any_bit c.args.from_zero.now b Zero X in_z)
    ∙ ap (joined (x b) (z b)) old ∙ joined_here (take i bits) b x z g)

pub returns : goal.returns
returns c = c.loop-i.invariant ∙ ap (λ bs. replaced bs (λ b. joined (state_of c.args.from_x.now b) (state_of c.args.from_zero.now b) (family_of c.args.table.now b)) (family_of c.args.table.now)) (take_all c.loop-i.i c.args.bits.now c.loop-i-test.false)
