use Rattle.std.proofs.Common.{◌+◌, Bool, sym, ap₂, ◌∙◌, subst, arith}
use Rattle.vs_four.specs.Logic.{BitList}
use Rattle.vs_plane.specs.Kernels.{lane_bits}
use Rattle.vs_kern_arith.specs.Digits.{less_of}
use Rattle.vs_kern_arith.proofs.OrderLaws.{IsOrder, order_begins, order_next, order_ends}
use Rattle.vs_kern_arith.proofs.orders.less_word.Goals as goal

pub loop-k-init : goal.loop-k-init
loop-k-init g c = λ i h p q.
    order_begins (lane_bits g.W.Word.lane c.args.file.now c.args.a.now i) (lane_bits g.W.Word.lane c.args.file.now c.args.b.now i) _ (c.none-word.ensures i h)

pub loop-k-preserved : goal.loop-k-preserved
loop-k-preserved g c = λ i h p q.
    let lane = g.W.Word.lane in
    let a : BitList = lane_bits lane c.args.file.now c.args.a.now i in
    let b : BitList = lane_bits lane c.args.file.now c.args.b.now i in
    let k = c.loop-k.k in
    let word : Bool = lane c.loop-k.word i in
    subst (λ (v : Bool). IsOrder a b (k + 1) v)
    (sym (c.next_less-word.ensures i h ∙ ap₂ (λ (x y : Bool). less_of x y word) (c.digit_at.ensures i h) (c.digit_at-in-loop-k.ensures i h)))
    (order_next a b k word p q (c.loop-k.invariant i h p q))

pub returns : goal.returns
returns g c = λ i h p q.
    let lane = g.W.Word.lane in
    let a : BitList = lane_bits lane c.args.file.now c.args.a.now i in
    let b : BitList = lane_bits lane c.args.file.now c.args.b.now i in
    order_ends a b c.loop-k.k (lane c.loop-k.word i)
    (omega (arith, c.filling_law.ensures.long c.args.file.now c.args.a.now i))
    (omega (arith, c.filling_law.ensures.long c.args.file.now c.args.b.now i))
    (c.loop-k.invariant i h p q)
