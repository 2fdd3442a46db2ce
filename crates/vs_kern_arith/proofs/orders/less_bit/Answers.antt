use Rattle.std.proofs.Common.{◌≡◌, Bool, not, ◌||◌, if◌then◌else◌, length, sym, ap, ap₂, ◌∙◌, arith}
use Rattle.vs_four.specs.declared.Bit4.TheVariants.{X}
use Rattle.vs_four.specs.Tables.{of_bool}
use Rattle.vs_four.specs.Logic.{BitList, all_known}
use Rattle.vs_plane.specs.Bits.{differ}
use Rattle.vs_plane.specs.Kernels.{lane_bits}
use Rattle.vs_kern_arith.proofs.SumLaws.{some_unknown}
use Rattle.vs_kern_arith.proofs.OrderLaws.{less_is, order_of}
use Rattle.vs_kern_arith.proofs.orders.less_bit.Goals as goal

pub returns-then-signed : goal.returns-then-signed
returns-then-signed g c = λ i h.
    let lane = g.W.Word.lane in
    let file = c.args.file.now in
    let a : BitList = lane_bits lane file c.args.a.now i in
    let b : BitList = lane_bits lane file c.args.b.now i in
    let word : Bool = lane c.xor-then-signed.result i in
    let less : Bool = lane c.less_word-word.result i in
    let unknown : lane c.unknown_lanes-unknown.result i ≡ some_unknown (all_known a) (all_known b) =
    c.unknown_lanes-unknown.ensures i h ∙ ap (λ (v : Bool). v || not (all_known b)) (c.unknown_lanes.ensures i h ∙ ap (λ (v : Bool). v || not (all_known a)) (c.none.ensures i h)) in
    let same : length b ≡ length a = omega (arith, c.filling_law.ensures.long file c.args.a.now i, c.filling_law.ensures.long file c.args.b.now i, c.requires.lengths) in
    c.known_bits.ensures i h
    ∙ ap (λ (u : Bool). if u then X else of_bool word) unknown
    ∙ less_is c.args.signed a b word same
    (λ p q.
    c.xor-then-signed.ensures i h
    ∙ ap₂ (λ (m n : Bool). differ m n) (c.less_word-word.ensures i h p q) (c.xor.ensures i h ∙ ap₂ (λ (m n : Bool). differ m n) (c.top_digit.ensures i h) (c.top_digit-then-signed.ensures i h))
    ∙ ap (λ (s : Bool). order_of s a b) (sym c.if-signed.true))

pub returns-else-signed : goal.returns-else-signed
returns-else-signed g c = λ i h.
    let lane = g.W.Word.lane in
    let file = c.args.file.now in
    let a : BitList = lane_bits lane file c.args.a.now i in
    let b : BitList = lane_bits lane file c.args.b.now i in
    let word : Bool = lane c.less_word-word.result i in
    let unknown : lane c.unknown_lanes-unknown.result i ≡ some_unknown (all_known a) (all_known b) =
    c.unknown_lanes-unknown.ensures i h ∙ ap (λ (v : Bool). v || not (all_known b)) (c.unknown_lanes.ensures i h ∙ ap (λ (v : Bool). v || not (all_known a)) (c.none.ensures i h)) in
    let same : length b ≡ length a = omega (arith, c.filling_law.ensures.long file c.args.a.now i, c.filling_law.ensures.long file c.args.b.now i, c.requires.lengths) in
    c.known_bits-else-signed.ensures i h
    ∙ ap (λ (u : Bool). if u then X else of_bool word) unknown
    ∙ less_is c.args.signed a b word same
    (λ p q. c.less_word-word.ensures i h p q ∙ ap (λ (s : Bool). order_of s a b) (sym c.if-signed.false))
