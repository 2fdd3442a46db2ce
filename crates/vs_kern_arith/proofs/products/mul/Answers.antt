use Rattle.std.proofs.Common.{◌≡◌, ℕ, ◌+◌, ◌-◌, ◌*◌, ◌<◌, Bool, not, ◌||◌, if◌then◌else◌, List, length, get_or, drop, take, replicate, Option, refl, sym, ap, ap₂, ◌∙◌, arith, add-one, length-drop}
use Rattle.std.proofs.lemmas.List.{get_or_default, length-replicate, drop-map, take_rest}
use Rattle.vs_four.specs.declared.Bit4.{Bit4}
use Rattle.vs_four.specs.declared.Bit4.TheVariants.{X, Zero}
use Rattle.vs_four.specs.Logic.{BitList, all_known}
use Rattle.vs_plane.specs.declared.pairs.Pair.{Pair}
use Rattle.vs_plane.specs.Lanes.{lane_or_x, slot_lane, value_bit}
use Rattle.vs_plane.specs.Kernels.{lane_bits}
use Rattle.vs_kern_arith.specs.Digits.{digits}
use Rattle.vs_kern_arith.specs.Rows.{row_added}
use Rattle.vs_kern_arith.proofs.SumLaws.{some_unknown}
use Rattle.vs_kern_arith.proofs.ProductLaws.{product, product_begins, product_ends}
use Rattle.vs_kern_arith.proofs.RowTurns.{IsPart, row_turn, row_added-same, rest_part}
use Rattle.vs_kern_arith.proofs.Still.{unmoved, value_plane_is}
use Rattle.vs_kern_arith.proofs.products.mul.Goals as goal

pub loop-n-init : goal.loop-n-init
loop-n-init g c =
    let law = c.filling_law.ensures in
    let lane = g.W.Word.lane in
    let before = c.args.file.now in
    let to = c.args.to.now in
    let a : ℕ → BitList = λ i. lane_bits lane before c.args.a.now i in
    let b : ℕ → BitList = λ i. lane_bits lane before c.args.b.now i in
    let u : ℕ → Bool = λ i. lane c.unknown_lanes-unknown.result i in
    let bit : ℕ → Bit4 = λ i. if u i then X else Zero in
    let value : ℕ → BitList = λ i. replicate (length to) (bit i) in
    record {
      slots = c.clear.ensures.fills.slots;
      value = λ i h.
          let unknown : u i ≡ some_unknown (all_known (a i)) (all_known (b i)) =
          c.unknown_lanes-unknown.ensures i h ∙ ap (λ (v : Bool). v || not (all_known (b i))) (c.unknown_lanes.ensures i h ∙ ap (λ (v : Bool). v || not (all_known (a i))) (c.none.ensures i h)) in
          let long : length to ≡ length (a i) = omega (arith, law.long before c.args.a.now i, c.requires.a_length) in
          law.stands value to (length to) i before c.clear.new.file h (length-replicate (length to) (bit i)) refl c.clear.ensures.fills
          ∙ ap₂ (λ (n : ℕ) (v : Bool). replicate n (if v then X else Zero)) long unknown
          ∙ product_begins (a i) (b i);
      kept = λ slot t. c.clear.ensures.fills.kept slot t;
      ticked = omega (arith, c.clear.ensures.ticked);
    }

squared : (n : ℕ) → (n + 1) * (n + 1) ≡ n * n + 2 * n + 1
squared n = grind arith

times_next : (n w : ℕ) → (n + 1) * w ≡ n * w + w
times_next n w = grind arith

pub loop-n-preserved : goal.loop-n-preserved
loop-n-preserved g c =
    let law = c.filling_law.ensures in
    let lane = g.W.Word.lane in
    let lanes = g.W.Word.LANES in
    let before = c.args.file.now in
    let file = c.loop-n.file in
    let to = c.args.to.now in
    let n = c.loop-n.n in
    let a : ℕ → BitList = λ i. lane_bits lane before c.args.a.now i in
    let b : ℕ → BitList = λ i. lane_bits lane before c.args.b.now i in
    let so_far = c.loop-n.invariant in
    let more : n < length to = c.loop-n-test.true in
    let part : List ℕ = take (length to - n) (drop n to) in
    let is_rest : part ≡ drop n to = take_rest to n in
    let long : length part ≡ length to - n = ap length is_rest ∙ length-drop n to in
    let in_b : n < length c.args.b.now = omega (arith, more, c.requires.b_length) in
    let rest : IsPart to part n (length part) = rest_part to part n more is_rest in
    let all : n + length part ≡ length to = omega (arith, long, more) in
    let value : ℕ → BitList = λ i. row_added (lane c.unknown_lanes-unknown.result i) (lane c.load-digit.result.value i) (lane_bits lane file c.args.a.now i) (lane_bits lane file part i) in
    let same_a : (i : ℕ) → lane_bits lane file c.args.a.now i ≡ a i = λ i.
    unmoved lane lanes law before file c.args.a.now i (λ k h. so_far.kept (get_or c.args.a.now k 0) (λ m l e. c.requires.a.to_apart.differ k m h l (sym e))) in
    let digit : (i : ℕ) → lane c.load-digit.result.value i ≡ digits (b i) n = λ i.
    value_plane_is lane c.load-digit.result (get_or (b i) n X) i
    (c.load-digit.ensures.lanes i
    ∙ ap (λ (o : Option (Pair _)). lane_or_x lane o i) (so_far.kept (get_or c.args.b.now n 0) (λ m l e. c.requires.b.to_apart.differ n m in_b l (sym e)))
    ∙ sym (law.bit before c.args.b.now n i in_b))
    ∙ ap value_bit (get_or_default (b i) n X Zero (omega (arith, in_b, law.long before c.args.b.now i))) in
    record {
      slots = c.add_row.ensures.fills.slots ∙ so_far.slots;
      value = λ i h.
          let unknown : lane c.unknown_lanes-unknown.result i ≡ some_unknown (all_known (a i)) (all_known (b i)) =
          c.unknown_lanes-unknown.ensures i h ∙ ap (λ (v : Bool). v || not (all_known (b i))) (c.unknown_lanes.ensures i h ∙ ap (λ (v : Bool). v || not (all_known (a i))) (c.none.ensures i h)) in
          let wide : length (a i) ≡ length to = omega (arith, law.long before c.args.a.now i, c.requires.a_length) in
          let stood : lane_bits lane file part i ≡ drop n (product (a i) (b i) n) =
          ap (λ (s : List ℕ). lane_bits lane file s i) is_rest ∙ sym (drop-map (λ slot. slot_lane lane file slot i) n to) ∙ ap (λ (v : BitList). drop n v) (so_far.value i h) in
          row_turn lane lanes law value (a i) (b i) to part n (length part) i file c.add_row.new.file
          h c.requires.targets.to_differ rest all wide (so_far.value i h)
          (row_added-same (lane c.unknown_lanes-unknown.result i) (some_unknown (all_known (a i)) (all_known (b i))) (lane c.load-digit.result.value i) (digits (b i) n)
          (lane_bits lane file c.args.a.now i) (a i) (lane_bits lane file part i) (drop n (product (a i) (b i) n)) unknown (digit i) (same_a i) stood)
          c.add_row.ensures.fills
          ∙ ap (λ (m : ℕ). product (a i) (b i) m) (sym (add-one n));
      kept = λ slot t. c.add_row.ensures.fills.kept slot (λ j h e. t (n + j) (omega (arith, h, all)) (sym (rest.at j h) ∙ e)) ∙ so_far.kept slot t;
      ticked = omega (arith, squared n, times_next n (length to), so_far.ticked, c.add_row.ensures.ticked, long);
    }

pub returns-clause-computes : goal.returns-clause-computes
returns-clause-computes g c =
    let lane = g.W.Word.lane in
    let before = c.args.file.now in
    let to = c.args.to.now in
    let so_far = c.loop-n.invariant in
    record {
      value = λ i h. so_far.value i h
          ∙ product_ends (lane_bits lane before c.args.a.now i) (lane_bits lane before c.args.b.now i) c.loop-n.n (omega (arith, c.filling_law.ensures.long before c.args.b.now i, c.requires.b_length));
      others = record {
        slots = so_far.slots;
        kept = λ slot none _. so_far.kept slot (λ k h e. none (k, h, get_or_default to k slot 0 h ∙ e));
      };
    }
