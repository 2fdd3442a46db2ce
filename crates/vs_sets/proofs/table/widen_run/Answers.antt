use Rattle.std.proofs.Common.{◌≡◌, ◌+◌, ◌-◌, ◌<◌, get_or, length, ap, ◌∙◌, arith}
use Rattle.vs_design.specs.Sets.{union}
use Rattle.vs_design.specs.LiftedBodies.{widen}
use Rattle.vs_design.specs.Values.{count_from}
use Rattle.vs_sets.specs.Tables.{beyond, family_of}
use Rattle.vs_sets.proofs.Families.{widen_step, any_default}
use Rattle.vs_sets.proofs.table.widen_run.Goals as goal

pub loop-bit-preserved : goal.loop-bit-preserved
loop-bit-preserved c =
    let first = c.args.first in
    let b = c.loop-bit.bit in
    let n = b - first in
    let inside : b < length c.loop-bit.table = omega (arith, c.loop-bit.auto.table) in
    let place : b ≡ first + n = omega arith in
    let next : (b + 1) - first ≡ n + 1 = omega arith in
    let old = any_default c.loop-bit.table b c.index-table-bit.result beyond inside in
    widen_step c.loop-bit.table first n b c.args.set c.union.result (family_of c.args.table.now) place inside c.loop-bit.invariant
    (c.union.ensures ∙ ap (λ y. union y c.args.set) (c.index-table-bit.is ∙ old))
    ∙ ap (λ m. widen (count_from first m) c.args.set (family_of c.args.table.now)) (Rattle.std.proofs.Common.sym next)
