use Rattle.std.proofs.Common.{◌≡◌, ℕ, ◌+◌, ◌*◌, ◌<◌, ◌≤◌, Bool, if◌then◌else◌, List, [], ◌∷◌, length, get_or, sym, ap, ap₂, ◌∙◌, subst, arith}
use Rattle.vs_four.specs.declared.Bit4.{Bit4}
use Rattle.vs_four.specs.declared.Bit4.TheVariants.{X}
use Rattle.vs_four.specs.Logic.{BitList}
use Rattle.vs_four.specs.Selects.{range_length}
use Rattle.vs_plane.specs.declared.pairs.Pair.{Pair}
use Rattle.vs_plane.specs.Lanes.{pair_lane}
use Rattle.vs_plane.specs.Kernels.{lane_bits, Fills, ternary}
use Rattle.vs_kern_select.specs.Matches.{is_place}
use Rattle.vs_kern_select.specs.Words.{address_place, write_word}
use Rattle.vs_kern_select.proofs.SelectStill.{still}
use Rattle.vs_kern_select.proofs.WordLaws.{word_ends, written_bit, length-written}
use Rattle.vs_kern_select.proofs.words.write_word.Goals as goal

pub loop-bit-preserved : goal.loop-bit-preserved
loop-bit-preserved g c =
    let law = c.filling_law.ensures in
    let lane = g.W.Word.lane in
    let lanes = g.W.Word.LANES in
    let before = c.args.file.now in
    let file = c.loop-bit.file in
    let to = c.args.to.now in
    let k : ℕ = length c.args.value.now in
    let n = c.loop-n.n in
    let j = c.loop-bit.bit in
    let place : ℕ = n * k + j in
    let t : ℕ → Bool = λ i. lane c.lanes_of_word-lanes.result i in
    let a : ℕ → BitList = λ i. lane_bits lane before c.args.a.now i in
    let address : ℕ → BitList = λ i. lane_bits lane before c.args.address.now i in
    let v : ℕ → BitList = λ i. lane_bits lane before c.args.value.now i in
    let value : ℕ → BitList = λ i. write_word c.args.range c.args.signed (a i) (address i) (v i) in
    let fills = c.loop-bit.invariant.fills in
    let less : n < range_length c.args.range = omega (arith, c.words_of-n-end.ensures) in
    let ends : n * k + k ≤ length c.args.a.now = omega (arith, word_ends (range_length c.args.range) k n less, c.requires.a_range) in
    let in_v : j < k = c.loop-bit-test.true in
    let in_a : place < length c.args.a.now = omega (arith, in_v, ends) in
    let in_to : place < length to = omega (arith, in_a, c.requires.a_length) in
    let within : place ≤ length to = omega (arith, in_to) in
    let begun : n * k ≤ length to = omega (arith, within) in
    let lane_is : (i : ℕ) → i < lanes → t i ≡ is_place n (address_place c.args.range c.args.signed (address i)) = λ i h.
    c.lanes_of_word-lanes.ensures i h
    ∙ ap (λ (xs : BitList). is_place n (address_place c.args.range c.args.signed xs)) (still lane lanes law value to (n * k) before c.loop-n.file c.args.address.now i c.requires.address.to_apart begun c.loop-n.invariant.fills) in
    let holds : (i : ℕ) → i < lanes → pair_lane lane c.in_lanes-pair.result i ≡ get_or (value i) place X = λ i h.
    c.in_lanes-pair.ensures i h
    ∙ ap₂ (λ (x y : Bit4). if t i then x else y)
    (c.load.ensures.lanes i ∙ law.reads value to place before file c.args.value.now j i c.requires.value.to_apart within in_v fills)
    (c.load-in-loop-bit.ensures.lanes i ∙ law.reads value to place before file c.args.a.now place i c.requires.a.to_apart within in_a fills)
    ∙ ap (λ (b : Bool). if b then get_or (v i) j X else get_or (a i) place X) (lane_is i h)
    ∙ written_bit c.args.range c.args.signed (a i) (address i) (v i) k n j (law.long before c.args.value.now i) in_v (omega (arith, in_a, law.long before c.args.a.now i)) in
    let next : place + 1 ≡ n * k + (j + 1) = omega arith in
    record {
      fills = subst (λ (m : ℕ). Fills lane lanes value to m before c.store.new.self) next
          (subst (λ (f : List (Pair _)). Fills lane lanes value to (place + 1) before f) (sym c.store.ensures.stored)
          (law.grows value to place before file c.in_lanes-pair.result c.requires.targets.to_differ in_to (omega arith) fills holds));
      ticked = omega (arith, c.store.ensures.ticked, c.loop-bit.invariant.ticked);
    }

pub loop-n-preserved : goal.loop-n-preserved
loop-n-preserved g c =
    let lane = g.W.Word.lane in
    let before = c.args.file.now in
    let k : ℕ = length c.args.value.now in
    let n = c.loop-n.n in
    let value : ℕ → BitList = λ i. write_word c.args.range c.args.signed (lane_bits lane before c.args.a.now i) (lane_bits lane before c.args.address.now i) (lane_bits lane before c.args.value.now i) in
    let all : n * k + c.loop-bit.bit ≡ (n + 1) * k = omega arith in
    record {
      fills = subst (λ (m : ℕ). Fills lane g.W.Word.LANES value c.args.to.now m before c.loop-bit.file) all c.loop-bit.invariant.fills;
      ticked = omega (arith, all, c.loop-bit.invariant.ticked);
    }

pub returns-clause-computes : goal.returns-clause-computes
returns-clause-computes g c =
    let law = c.filling_law.ensures in
    let lane = g.W.Word.lane in
    let before = c.args.file.now in
    let to = c.args.to.now in
    let k : ℕ = length c.args.value.now in
    let n = c.loop-n.n in
    let whole : n ≡ range_length c.args.range = omega (arith, c.words_of-n-end.ensures) in
    let all : n * k ≡ length to = ap (λ (m : ℕ). m * k) whole ∙ sym c.requires.a_range ∙ c.requires.a_length in
    law.ends (ternary (write_word c.args.range c.args.signed)) (c.args.a.now ∷ c.args.address.now ∷ c.args.value.now ∷ []) to c.args.scratch.now (n * k) before c.loop-n.file
    (λ i h. length-written c.args.range c.args.signed (lane_bits lane before c.args.a.now i) (lane_bits lane before c.args.address.now i) (lane_bits lane before c.args.value.now i)
    ∙ law.long before c.args.a.now i ∙ c.requires.a_length)
    all
    c.loop-n.invariant.fills
