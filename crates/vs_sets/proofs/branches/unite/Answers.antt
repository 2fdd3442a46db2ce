use Rattle.std.proofs.Common.{◌≡◌, ◌<◌, length, get_or, take, ap, ap₂, ◌∙◌, arith}
use Rattle.std.proofs.lemmas.Grind.{common_steps}
use Rattle.vs_design.specs.Sets.{union}
use Rattle.vs_design.specs.LiftedBodies.{either}
use Rattle.vs_sets.specs.Tables.{beyond, family_of}
use Rattle.vs_sets.proofs.Families.{any_default}
use Rattle.vs_sets.proofs.BranchSteps.{replace_step, get_or-sets, united}
use Rattle.vs_sets.proofs.branches.unite.Goals as goal

pub loop-i-preserved : goal.loop-i-preserved
loop-i-preserved c other h =
    let bits = c.args.bits.now in
    let i = c.loop-i.i in
    let x = c.index-sets-i.result in
    let y = c.index-table-bit.result in
    let after = family_of c.args.table.now in
    let within : get_or bits i 0 < length c.loop-i.table = grind (arith, common_steps, c.requires.within, c.loop-i.auto.table) in
    let b = get_or bits i 0 in
    let left : x ≡ other b = c.index-sets-i.is ∙ ap (λ ss. get_or ss i x) h ∙ get_or-sets other bits i x c.loop-i-test.true in
    let right = c.index-table-bit.is ∙ any_default c.loop-i.table b y beyond within ∙ ap (λ f. f b) (c.loop-i.invariant other h) in
    replace_step c.loop-i.table bits i c.union.result (either other after) after c.loop-i-test.true within (c.loop-i.invariant other h)
    (c.union.ensures ∙ ap₂ union left right ∙ united (take i bits) b other after)
