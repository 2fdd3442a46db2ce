use Rattle.std.proofs.Common.{◌≡◌, ℕ, ◌+◌, ◌<◌, ◌≤◌, Bool, not, ◌||◌, if◌then◌else◌, List, [], ◌∷◌, length, get_or, sym, ap, ap₂, ◌∙◌, subst, arith}
use Rattle.vs_four.specs.declared.Bit4.TheVariants.{X, Zero}
use Rattle.vs_four.specs.Tables.{of_bool}
use Rattle.vs_four.specs.Logic.{BitList, all_known}
use Rattle.vs_plane.specs.Bits.{differ}
use Rattle.vs_plane.specs.declared.pairs.Pair.{Pair}
use Rattle.vs_plane.specs.Lanes.{pair_lane, value_bit}
use Rattle.vs_plane.specs.Kernels.{lane_bits, Fills, binary}
use Rattle.vs_kern_arith.specs.Digits.{summed, sum_of, carry_of}
use Rattle.vs_kern_arith.proofs.SumLaws.{IsLeft, some_unknown, place_is, left_next, length-summed}
use Rattle.vs_kern_arith.proofs.Still.{still}
use Rattle.vs_kern_arith.proofs.sums.sum_bits.Goals as goal

pub loop-k-preserved : goal.loop-k-preserved
loop-k-preserved g c =
    let law = c.filling_law.ensures in
    let lane = g.W.Word.lane in
    let lanes = g.W.Word.LANES in
    let before = c.args.file.now in
    let file = c.loop-k.file in
    let to = c.args.to.now in
    let k = c.loop-k.k in
    let inverted = c.args.inverted in
    let a : ℕ → BitList = λ i. lane_bits lane before c.args.a.now i in
    let b : ℕ → BitList = λ i. lane_bits lane before c.args.b.now i in
    let value : ℕ → BitList = λ i. summed inverted (length to) (a i) (b i) in
    let carry : ℕ → Bool = λ i. lane c.loop-k.carry i in
    let fills = c.loop-k.invariant.fills in
    let in_to : k < length to = c.loop-k-test.true in
    let within : k ≤ length to = omega arith in
    let in_b : (i : ℕ) → k < length (b i) = λ i. omega (arith, in_to, law.long before c.args.b.now i, c.requires.b_length) in
    let x : (i : ℕ) → i < lanes → lane c.digit_at-first.result i ≡ value_bit (get_or (a i) k Zero) = λ i h.
    c.digit_at-first.ensures i h
    ∙ ap (λ (v : BitList). value_bit (get_or v k Zero)) (still lane lanes law value to k before file c.args.a.now i c.requires.a.to_apart within fills) in
    let y : (i : ℕ) → i < lanes → lane c.flipped-second.result i ≡ differ inverted (value_bit (get_or (b i) k Zero)) = λ i h.
    c.flipped-second.ensures i h
    ∙ ap (λ (v : Bool). differ inverted v) (c.digit_at.ensures i h
    ∙ ap (λ (v : BitList). value_bit (get_or v k Zero)) (still lane lanes law value to k before file c.args.b.now i c.requires.b.to_apart within fills)) in
    let unknown : (i : ℕ) → i < lanes → lane c.unknown_lanes-unknown.result i ≡ some_unknown (all_known (a i)) (all_known (b i)) = λ i h.
    c.unknown_lanes-unknown.ensures i h ∙ ap (λ (v : Bool). v || not (all_known (b i))) (c.unknown_lanes.ensures i h ∙ ap (λ (v : Bool). v || not (all_known (a i))) (c.none.ensures i h)) in
    let holds : (i : ℕ) → i < lanes → pair_lane lane c.known_bits-pair.result i ≡ get_or (value i) k X = λ i h.
    c.known_bits-pair.ensures i h
    ∙ ap₂ (λ (u s : Bool). if u then X else of_bool s) (unknown i h) (c.digit_sum.ensures i h ∙ ap₂ (λ (m n : Bool). sum_of m n (carry i)) (x i h) (y i h))
    ∙ place_is inverted (length to) (a i) (b i) k (carry i) in_to (in_b i) (λ p q. c.loop-k.invariant.carried i h p q) in
    record {
      fills = subst (λ (f : List (Pair _)). Fills lane lanes value to (k + 1) before f) (sym c.store.ensures.stored)
          (law.grows value to k before file c.known_bits-pair.result c.requires.targets.to_differ in_to (omega arith) fills holds);
      ticked = omega (arith, c.store.ensures.ticked);
      carried = λ i h p q. subst (λ (v : Bool). IsLeft inverted (a i) (b i) (k + 1) v)
          (sym (c.next_carry-carry.ensures i h ∙ ap₂ (λ (m n : Bool). carry_of m n (carry i)) (x i h) (y i h)))
          (left_next inverted (a i) (b i) k (carry i) (in_b i) p q (c.loop-k.invariant.carried i h p q));
    }

pub returns-clause-computes : goal.returns-clause-computes
returns-clause-computes g c =
    let lane = g.W.Word.lane in
    let before = c.args.file.now in
    let to = c.args.to.now in
    c.filling_law.ensures.ends (binary (summed c.args.inverted (length to))) (c.args.a.now ∷ c.args.b.now ∷ []) to c.args.scratch.now c.loop-k.k before c.loop-k.file
    (λ i h. length-summed c.args.inverted (length to) (lane_bits lane before c.args.a.now i) (lane_bits lane before c.args.b.now i))
    (omega arith)
    c.loop-k.invariant.fills
