use Rattle.std.proofs.Common.{◌<◌, get_or, refl, sym, subst}
use Rattle.std.proofs.lemmas.List.{take_all}
use Rattle.vs_reads.proofs.Tests.{member_at}
use Rattle.vs_race.proofs.Noting.{IsNoted, one_noted}
use Rattle.vs_race.proofs.table.note.Goals as goal

pub bounds-table-bit : goal.bounds-table-bit
bounds-table-bit c = subst (λ m. get_or c.args.bits.now c.loop-bit.bit-index 0 < m) (sym c.loop-bit.auto.table) (c.requires _ (member_at c.args.bits.now c.loop-bit.bit-index c.loop-bit-test.true))

pub slice_copy_out-before : goal.slice_copy_out-before
slice_copy_out-before c = subst (λ m. get_or c.args.bits.now c.loop-bit.bit-index 0 < m) (sym c.loop-bit.auto.table) (c.requires _ (member_at c.args.bits.now c.loop-bit.bit-index c.loop-bit-test.true))

pub loop-bit-preserved : goal.loop-bit-preserved
loop-bit-preserved c =
    one_noted c.args.table.now c.loop-bit.table _ c.args.bits.now c.loop-bit.bit-index c.args.stirrer _ c.joined.result c.loop-bit.auto.table c.loop-bit-test.true
    (subst (λ m. get_or c.args.bits.now c.loop-bit.bit-index 0 < m) (sym c.loop-bit.auto.table) (c.requires _ (member_at c.args.bits.now c.loop-bit.bit-index c.loop-bit-test.true))) refl c.joined.ensures refl c.loop-bit.invariant

pub returns : goal.returns
returns c = subst (λ zs. IsNoted c.args.table.now c.loop-bit.table zs c.args.stirrer) (take_all c.loop-bit.bit-index c.args.bits.now c.loop-bit-test.false) c.loop-bit.invariant
