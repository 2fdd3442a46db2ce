use Rattle.std.proofs.Common.{Some, sym, ap, ◌∙◌, arith}
use Rattle.std.proofs.lemmas.Option.{slice_get-get_or}
use Rattle.vs_plane.proofs.PackedBits.{packed_more, packed_vector, packed_others}
use Rattle.vs_plane.proofs.pairs.Pair.pack.Goals as goal

pub loop-n-preserved : goal.loop-n-preserved
loop-n-preserved g c =
    let n = c.loop-n.n in
    let pairs = c.loop-n.pairs in
    let old = c.index-pairs-n.result in
    let value = c.with_sixty_four in
    let unknown = c.with_sixty_four-in-loop-n in
    packed_more g.W.Word.lane g.W.Word.LANES c.args.k n c.columns-value.result c.columns-unknown.result c.args.pairs.now pairs old record { value = value.result; unknown = unknown.result }
    (slice_get-get_or pairs n old (omega arith) ∙ ap Some (sym c.index-pairs-n.is))
    value.ensures.changed unknown.ensures.changed value.ensures.others unknown.ensures.others c.loop-n.invariant

pub returns-clause-packed : goal.returns-clause-packed
returns-clause-packed g c i h =
    packed_vector g.W.Word.lane g.W.Word.LANES c.args.k c.loop-n.n c.args.vectors.now.value c.args.vectors.now.unknown c.columns-value.result c.columns-unknown.result c.args.pairs.now c.loop-n.pairs i
    c.requires.most h (omega arith) c.columns-value.ensures.columns c.columns-unknown.ensures.columns c.loop-n.invariant

pub returns-clause-others : goal.returns-clause-others
returns-clause-others g c n h ne =
    packed_others g.W.Word.lane g.W.Word.LANES c.args.k c.loop-n.n c.columns-value.result c.columns-unknown.result c.args.pairs.now c.loop-n.pairs n h ne c.loop-n.invariant
