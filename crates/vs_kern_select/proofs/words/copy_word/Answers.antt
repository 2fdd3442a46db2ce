use Rattle.std.proofs.Common.{◌≡◌, ℕ, ◌+◌, ◌<◌, ◌≤◌, Bool, if◌then◌else◌, List, length, get_or, take, drop, Option, sym, ap, ap₂, ◌∙◌, subst, arith}
use Rattle.vs_four.specs.declared.Bit4.{Bit4}
use Rattle.vs_four.specs.declared.Bit4.TheVariants.{X}
use Rattle.vs_four.specs.Logic.{BitList}
use Rattle.vs_plane.specs.declared.pairs.Pair.{Pair}
use Rattle.vs_plane.specs.Lanes.{lane_or_x, pair_lane}
use Rattle.vs_plane.specs.Kernels.{lane_bits, Fills}
use Rattle.vs_kern_select.proofs.WordLaws.{choice_at}
use Rattle.vs_kern_select.proofs.words.copy_word.Goals as goal

pub loop-bit-preserved : goal.loop-bit-preserved
loop-bit-preserved g c =
    let law = c.filling_law.ensures in
    let lane = g.W.Word.lane in
    let lanes = g.W.Word.LANES in
    let before = c.args.file.now in
    let file = c.loop-bit.file in
    let to = c.args.to.now in
    let from = c.args.from in
    let j = c.loop-bit.bit in
    let t : ℕ → Bool = λ i. lane c.args.lanes i in
    let a : ℕ → BitList = λ i. lane_bits lane before c.args.a.now i in
    let p : ℕ → BitList = λ i. lane_bits lane before to i in
    let value : ℕ → BitList = λ i. if t i then take (length to) (drop from (a i)) else p i in
    let fills = c.loop-bit.invariant.fills in
    let in_to : j < length to = c.loop-bit-test.true in
    let within : j ≤ length to = omega arith in
    let in_a : from + j < length c.args.a.now = omega (arith, in_to, c.requires.from) in
    let not_yet : (k : ℕ) → k < j → get_or to k 0 ≡ get_or to j 0 → ⊥ = λ k h e.
    let same : k ≡ j = c.requires.different.place k j (omega arith) in_to e in omega arith in
    let new_is : (i : ℕ) → pair_lane lane c.load.result i ≡ get_or (a i) (from + j) X = λ i.
    c.load.ensures.lanes i ∙ law.reads value to j before file c.args.a.now (from + j) i c.requires.apart within in_a fills in
    let old_is : (i : ℕ) → pair_lane lane c.load-in-loop-bit.result i ≡ get_or (p i) j X = λ i.
    c.load-in-loop-bit.ensures.lanes i ∙ ap (λ (o : Option (Pair _)). lane_or_x lane o i) (fills.kept (get_or to j 0) not_yet) ∙ sym (law.bit before to j i in_to) in
    let holds : (i : ℕ) → i < lanes → pair_lane lane c.in_lanes-pair.result i ≡ get_or (value i) j X = λ i h.
    c.in_lanes-pair.ensures i h
    ∙ ap₂ (λ (x y : Bit4). if t i then x else y) (new_is i) (old_is i)
    ∙ choice_at (t i) (length to) from j (a i) (p i) in_to in
    record {
      fills = subst (λ (f : List (Pair _)). Fills lane lanes value to (j + 1) before f) (sym c.store.ensures.stored)
          (law.grows value to j before file c.in_lanes-pair.result c.requires.different in_to (omega arith) fills holds);
      ticked = omega (arith, c.store.ensures.ticked);
    }

pub returns-clause-fills : goal.returns-clause-fills
returns-clause-fills g c =
    let lane = g.W.Word.lane in
    let before = c.args.file.now in
    let to = c.args.to.now in
    let all : c.loop-bit.bit ≡ length to = omega arith in
    subst (λ (n : ℕ). Fills lane g.W.Word.LANES (λ i. if lane c.args.lanes i then take (length to) (drop c.args.from (lane_bits lane before c.args.a.now i)) else lane_bits lane before to i) to n before c.loop-bit.file) all c.loop-bit.invariant.fills
