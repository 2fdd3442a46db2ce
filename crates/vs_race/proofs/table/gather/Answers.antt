use Rattle.std.proofs.Common.{[], refl, subst}
use Rattle.std.proofs.lemmas.List.{take_all}
use Rattle.vs_reads.proofs.Tests.{member_at}
use Rattle.vs_race.proofs.Noting.{IsGathered, none_gathered, one_gathered}
use Rattle.vs_race.proofs.table.gather.Goals as goal

pub loop-bit-init : goal.loop-bit-init
loop-bit-init c = none_gathered c.args.table.now [] c.args.before (λ t. refl)

pub bounds-table-bit : goal.bounds-table-bit
bounds-table-bit c = c.requires _ (member_at c.args.bits.now c.loop-bit.bit-index c.loop-bit-test.true)

pub loop-bit-preserved : goal.loop-bit-preserved
loop-bit-preserved c =
    one_gathered c.args.table.now c.args.bits.now c.loop-bit.bit-index c.args.before c.loop-bit.all _ c.joined-all.result c.loop-bit-test.true
    (c.requires _ (member_at c.args.bits.now c.loop-bit.bit-index c.loop-bit-test.true)) refl c.joined-all.ensures c.loop-bit.invariant

pub returns : goal.returns
returns c = subst (λ zs. IsGathered c.args.table.now zs c.args.before c.loop-bit.all) (take_all c.loop-bit.bit-index c.args.bits.now c.loop-bit-test.false) c.loop-bit.invariant
