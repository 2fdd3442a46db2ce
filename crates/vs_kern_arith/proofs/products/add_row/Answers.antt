use Rattle.std.proofs.Common.{◌≡◌, ℕ, ◌+◌, ◌<◌, ◌≤◌, Bool, false, ◌&&◌, if◌then◌else◌, List, length, get_or, Option, sym, ap, ap₂, ◌∙◌, subst, arith}
use Rattle.std.proofs.lemmas.List.{get_or_default}
use Rattle.vs_four.specs.declared.Bit4.TheVariants.{X, Zero}
use Rattle.vs_four.specs.Tables.{of_bool}
use Rattle.vs_four.specs.Logic.{BitList}
use Rattle.vs_plane.specs.Bits.{differ}
use Rattle.vs_plane.specs.declared.pairs.Pair.{Pair}
use Rattle.vs_plane.specs.Lanes.{lane_or_x, pair_lane, value_bit}
use Rattle.vs_plane.specs.Kernels.{lane_bits, Fills}
use Rattle.vs_kern_arith.specs.Digits.{digits, sum_of, carry_of, sum_carry, sum_digit}
use Rattle.vs_kern_arith.specs.Rows.{row_digits, row_added}
use Rattle.vs_kern_arith.proofs.CarryLaws.{carry_first, carry_next, carry_of_is, bit_at_place}
use Rattle.vs_kern_arith.proofs.Still.{value_plane_is}
use Rattle.vs_kern_arith.proofs.products.add_row.Goals as goal

pub loop-j-init : goal.loop-j-init
loop-j-init g c = record {
  fills = c.filling_law.ensures.begins _ c.args.to.now c.args.file.now;
  ticked = omega arith;
  carried = λ i h. c.none-carry.ensures i h ∙ sym (carry_first _ _ false);
}

pub loop-j-preserved : goal.loop-j-preserved
loop-j-preserved g c =
    let law = c.filling_law.ensures in
    let lane = g.W.Word.lane in
    let lanes = g.W.Word.LANES in
    let before = c.args.file.now in
    let file = c.loop-j.file in
    let to = c.args.to.now in
    let j = c.loop-j.j in
    let u : ℕ → Bool = λ i. lane c.args.unknown i in
    let d : ℕ → Bool = λ i. lane c.args.digit i in
    let a : ℕ → BitList = λ i. lane_bits lane before c.args.a.now i in
    let p : ℕ → BitList = λ i. lane_bits lane before to i in
    let x : ℕ → ℕ → Bool = λ i. row_digits (d i) (a i) in
    let y : ℕ → ℕ → Bool = λ i. digits (p i) in
    let value : ℕ → BitList = λ i. row_added (u i) (d i) (a i) (p i) in
    let fills = c.loop-j.invariant.fills in
    let in_to : j < length to = c.loop-j-test.true in
    let within : j ≤ length to = omega arith in
    let in_a : j < length c.args.a.now = omega (arith, in_to, c.requires.a_length) in
    let x_is : (i : ℕ) → i < lanes → lane c.and-first.result i ≡ x i j = λ i h.
    c.and-first.ensures i h
    ∙ ap (λ (v : Bool). v && d i)
    (value_plane_is lane c.load.result (get_or (a i) j X) i (c.load.ensures.lanes i ∙ law.reads value to j before file c.args.a.now j i c.requires.a.to_apart within in_a fills)
    ∙ ap value_bit (get_or_default (a i) j X Zero (omega (arith, in_a, law.long before c.args.a.now i)))) in
    let not_yet : (k : ℕ) → k < j → get_or to k 0 ≡ get_or to j 0 → ⊥ = λ k h e.
    let same : k ≡ j = c.requires.targets.to_differ.place k j (omega arith) in_to e in omega arith in
    let y_is : (i : ℕ) → i < lanes → lane c.load-second.result.value i ≡ y i j = λ i h.
    value_plane_is lane c.load-second.result (get_or (p i) j X) i
    (c.load-second.ensures.lanes i ∙ ap (λ (o : Option (Pair _)). lane_or_x lane o i) (fills.kept (get_or to j 0) not_yet) ∙ sym (law.bit before to j i in_to))
    ∙ ap value_bit (get_or_default (p i) j X Zero (omega (arith, in_to, law.long before to i))) in
    let holds : (i : ℕ) → i < lanes → pair_lane lane c.known_bits-pair.result i ≡ get_or (value i) j X = λ i h.
    c.known_bits-pair.ensures i h
    ∙ ap (λ (s : Bool). if u i then X else of_bool s)
    (c.digit_sum.ensures i h
    ∙ ap₂ (λ (m n : Bool). sum_of m n (lane c.loop-j.carry i)) (x_is i h) (y_is i h)
    ∙ ap (λ (v : Bool). sum_of (x i j) (y i j) v) (c.loop-j.invariant.carried i h))
    ∙ sym (bit_at_place (sum_digit (u i) (x i) (y i) false) (length (p i)) j (omega (arith, in_to, law.long before to i))) in
    record {
      fills = subst (λ (f : List (Pair _)). Fills lane lanes value to (j + 1) before f) (sym c.store.ensures.stored)
          (law.grows value to j before file c.known_bits-pair.result c.requires.targets.to_differ in_to (omega arith) fills holds);
      ticked = omega (arith, c.store.ensures.ticked);
      carried = λ i h.
          c.next_carry-carry.ensures i h
          ∙ ap₂ (λ (m n : Bool). carry_of m n (lane c.loop-j.carry i)) (x_is i h) (y_is i h)
          ∙ ap (λ (v : Bool). carry_of (x i j) (y i j) v) (c.loop-j.invariant.carried i h)
          ∙ carry_of_is (x i j) (y i j) (sum_carry (x i) (y i) false j)
          ∙ sym (carry_next (λ m. x i m && y i m) (λ m. differ (x i m) (y i m)) false j);
    }
