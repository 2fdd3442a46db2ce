use Rattle.std.proofs.Common.{ℕ, length, sym, subst}
use Rattle.vs_misses.specs.Rows.{HaveDigits}
use Rattle.vs_misses.proofs.Packs.{packed_more}
use Rattle.vs_misses.proofs.packing.pack_wanted.Goals as goal

pub pack_group-requires-clause-digits : goal.pack_group-requires-clause-digits
pack_group-requires-clause-digits g c = subst (λ (n : ℕ). HaveDigits n c.args.places.now c.args.drive.now) (sym c.loop-k.invariant.wanted_long) c.requires.digits

pub loop-k-preserved : goal.loop-k-preserved
loop-k-preserved g c =
    packed_more g.W.Word.lane g.W.Word.LANES c.loop-k.k c.args.drive.now c.args.places.now (length c.args.wanted.now) c.loop-k.wanted c.loop-k.free c.pack_group.new.wanted c.pack_group.new.free
    c.pack_group.ensures.wanted c.pack_group.ensures.free c.pack_group.ensures.packed c.pack_group.ensures.others c.loop-k.invariant
