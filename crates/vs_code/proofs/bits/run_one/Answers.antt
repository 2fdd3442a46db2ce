use Rattle.std.proofs.Common.{sym, ap, ap₂, ◌∙◌}
use Rattle.vs_four.specs.Tables.{and_bit, not_bit}
use Rattle.vs_plane.specs.Lanes.{slot_lane}
use Rattle.vs_kern_logic.specs.declared.costs.Kernel.{Kernel}
use Rattle.vs_code.proofs.OneBits.{known_of, not_of, one_bit, one_stored}
use Rattle.vs_code.proofs.bits.run_one.Goals as goal

pub returns-in-Copy-clause-computes : goal.returns-in-Copy-clause-computes
returns-in-Copy-clause-computes g c =
    let lane = g.W.Word.lane in
    let before = c.args.file.now in
    one_stored lane g.W.Word.LANES c.args.kernel c.args.a c.args.to before c.store.new.self c.load-copy.result c.requires.lengths c.filling_law.ensures c.requires.to
    c.store.ensures.stored (λ i h. c.load-copy.ensures.lanes i ∙ ap (λ (n : Kernel). one_bit n (slot_lane lane before c.args.a i)) (sym c.in-Copy.is))

pub returns-in-Not-clause-computes : goal.returns-in-Not-clause-computes
returns-in-Not-clause-computes g c =
    let lane = g.W.Word.lane in
    let before = c.args.file.now in
    one_stored lane g.W.Word.LANES c.args.kernel c.args.a c.args.to before c.store-in-Not.new.self c.not-not.result c.requires.lengths c.filling_law.ensures c.requires.to
    c.store-in-Not.ensures.stored (λ i h. c.not-not.ensures i h ∙ ap not_bit (c.load.ensures.lanes i) ∙ not_of c.args.kernel (slot_lane lane before c.args.a i) c.in-Not.is)

pub returns-in-ReduceAnd-clause-computes : goal.returns-in-ReduceAnd-clause-computes
returns-in-ReduceAnd-clause-computes g c =
    let lane = g.W.Word.lane in
    let before = c.args.file.now in
    one_stored lane g.W.Word.LANES c.args.kernel c.args.a c.args.to before c.store-in-ReduceAnd.new.self c.and.result c.requires.lengths c.filling_law.ensures c.requires.to
    c.store-in-ReduceAnd.ensures.stored (λ i h. c.and.ensures i h ∙ ap₂ and_bit (c.load-bit.ensures.lanes i) (c.load-bit.ensures.lanes i) ∙ known_of c.args.kernel (slot_lane lane before c.args.a i) c.in-ReduceAnd.is)
