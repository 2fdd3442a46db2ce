use Rattle.std.proofs.Common.{◌==◌, ap₂, sym, arith}
use Rattle.std.specs.Int.{bit_at}
use Rattle.vs_plane.specs.Lanes.{decode}
use Rattle.vs_misses.proofs.Words.{fill_more}
use Rattle.vs_misses.proofs.packing.fill.Goals as goal

pub loop-n-preserved : goal.loop-n-preserved
loop-n-preserved g c =
    let value = c.with_sixty_four in
    let unknown = c.with_sixty_four-in-loop-n in
    fill_more g.W.Word.lane g.W.Word.LANES c.args.k c.loop-n.n (λ i. decode (bit_at c.args.value i == 1) (bit_at c.args.unknown i == 1)) c.args.pairs.now c.loop-n.pairs
    c.index-pairs-n.result record { value = value.result; unknown = unknown.result } (omega arith) (sym c.index-pairs-n.is)
    (λ i below. ap₂ decode (value.ensures.changed i below) (unknown.ensures.changed i below))
    (λ n below ne. ap₂ decode (value.ensures.others n below ne) (unknown.ensures.others n below ne))
    c.loop-n.invariant
