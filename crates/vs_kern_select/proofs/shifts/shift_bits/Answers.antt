use Rattle.std.proofs.Common.{◌≡◌, ℕ, ◌+◌, ◌*◌, ◌%◌, ◌^◌, ◌<◌, Bool, not, ◌&&◌, List, map, length, get_or, drop, Option, refl, sym, ap, ap₂, ◌∙◌, arith}
use Rattle.std.proofs.lemmas.List.{drop-map, get_or_default, length-map, take_rest}
use Rattle.std.proofs.lemmas.Nat.{one_shl}
use Rattle.std.specs.List.{list_any}
use Rattle.vs_four.specs.declared.Bit4.{Bit4}
use Rattle.vs_four.specs.declared.Bit4.TheVariants.{X}
use Rattle.vs_four.specs.Tables.{is_one}
use Rattle.vs_four.specs.Logic.{BitList, all_known}
use Rattle.vs_plane.specs.declared.pairs.Pair.{Pair}
use Rattle.vs_plane.specs.Lanes.{pair_lane, slot_lane, lane_or_x}
use Rattle.vs_plane.specs.Kernels.{lane_bits}
use Rattle.vs_kern_select.specs.Costs.{moving_bits}
use Rattle.vs_kern_select.specs.Moves.{first, first_bit, moved, turns}
use Rattle.vs_kern_select.proofs.ShiftDigits.{moving_below, place_fits}
use Rattle.vs_kern_select.proofs.ShiftMoves.{map-turns, length-turns, turns_twice}
use Rattle.vs_kern_select.proofs.ShiftTurns.{turns_none}
use Rattle.vs_kern_select.proofs.ShiftLaws.{length-moved, moved_so_far, moves_begin, moves_next, moves_end}
use Rattle.vs_kern_select.proofs.shifts.shift_bits.Goals as goal

pub loop-bit-init : goal.loop-bit-init
loop-bit-init g c =
    let law = c.filling_law.ensures in
    let lane = g.W.Word.lane in
    let before = c.args.file.now in
    let file = c.first_bits.new.file in
    let left = c.args.left in
    let to = c.args.to.now in
    let moving = c.moving_bits-moving.result in
    let fill : ℕ → Bit4 = λ i. pair_lane lane c.args.fill i in
    let a : ℕ → BitList = λ i. lane_bits lane before c.args.a.now i in
    let amount : ℕ → BitList = λ i. lane_bits lane before c.args.amount.now i in
    let u : ℕ → Bool = λ i. lane c.unknown_lanes-unknown.result i in
    let o : ℕ → Bool = λ i. lane c.one_lanes-out.result i in
    let out : ℕ → Bool = λ i. list_any is_one (drop moving (amount i)) in
    let value : ℕ → BitList = λ i. first (u i) (o i) (fill i) (a i) in
    record {
      slots = c.first_bits.ensures.fills.slots;
      value = λ i h.
          let read : ℕ → Bit4 = λ (slot : ℕ). slot_lane lane before slot i in
          let long : length (value i) ≡ length to = length-map (a i) (first_bit (u i) (o i) (fill i)) ∙ law.long before c.args.a.now i ∙ c.requires.a_length in
          let ones : o i ≡ out i = c.one_lanes-out.ensures i h
          ∙ ap (λ (xs : List ℕ). list_any is_one (map read xs)) (take_rest c.args.amount.now moving)
          ∙ ap (λ (r : BitList). list_any is_one r) (sym (drop-map read moving c.args.amount.now)) in
          map-turns left (λ (slot : ℕ). slot_lane lane file slot i) to
          ∙ ap (λ (r : BitList). turns left r) (law.stands value to (length to) i before file h long refl c.first_bits.ensures.fills)
          ∙ ap₂ (λ (m n : Bool). turns left (first m n (fill i) (a i))) (c.unknown_lanes-unknown.ensures i h) ones
          ∙ moves_begin left (fill i) (out i) (a i) (amount i);
      kept = λ slot none. c.first_bits.ensures.fills.kept slot none;
      ticked = omega (arith, c.first_bits.ensures.ticked);
    }

pub overflow_shl-bit : goal.overflow_shl-bit
overflow_shl-bit g c =
    let below : 2 ^ c.loop-bit.bit < length c.args.to.now = moving_below (length c.args.to.now) (length c.args.amount.now) c.loop-bit.bit (omega (arith, c.moving_bits-moving.ensures)) in
    place_fits (length c.args.to.now) c.loop-bit.bit (omega arith) below

pub move_bits-requires-clause-distance : goal.move_bits-requires-clause-distance
move_bits-requires-clause-distance g c =
    let below : 2 ^ c.loop-bit.bit < length c.args.to.now = moving_below (length c.args.to.now) (length c.args.amount.now) c.loop-bit.bit (omega (arith, c.moving_bits-moving.ensures)) in
    let fits : c.loop-bit.bit < 64 = place_fits (length c.args.to.now) c.loop-bit.bit (omega arith) below in
    omega (arith, one_shl c.loop-bit.bit 64 fits, below)

pub loop-bit-preserved : goal.loop-bit-preserved
loop-bit-preserved g c =
    let law = c.filling_law.ensures in
    let lane = g.W.Word.lane in
    let before = c.args.file.now in
    let file = c.loop-bit.file in
    let after = c.move_bits.new.file in
    let left = c.args.left in
    let to = c.args.to.now in
    let bit = c.loop-bit.bit in
    let moving = c.moving_bits-moving.result in
    let order : List ℕ = turns left to in
    let fill : ℕ → Bit4 = λ i. pair_lane lane c.args.fill i in
    let a : ℕ → BitList = λ i. lane_bits lane before c.args.a.now i in
    let amount : ℕ → BitList = λ i. lane_bits lane before c.args.amount.now i in
    let out : ℕ → Bool = λ i. list_any is_one (drop moving (amount i)) in
    let moves : ℕ → Bool = λ i. lane c.and-moves.result i in
    let places : ℕ = 1 * 2 ^ bit % 2 ^ 64 in
    let value : ℕ → BitList = λ i. moved (moves i) (fill i) places (lane_bits lane file order i) in
    let so_far = c.loop-bit.invariant in
    let in_amount : bit < length c.args.amount.now = omega (arith, c.loop-bit-test.true, c.moving_bits-moving.ensures) in
    let below : 2 ^ bit < length to = moving_below (length to) (length c.args.amount.now) bit (omega (arith, c.moving_bits-moving.ensures)) in
    let power : places ≡ 2 ^ bit = one_shl bit 64 (place_fits (length to) bit (omega arith) below) in
    let digit : (i : ℕ) → slot_lane lane file (get_or c.args.amount.now bit 0) i ≡ get_or (amount i) bit X = λ i.
    ap (λ (p : Option (Pair _)). lane_or_x lane p i) (so_far.kept (get_or c.args.amount.now bit 0) (λ j l e. c.requires.amount.to_apart.differ bit j in_amount l (sym e)))
    ∙ sym (law.bit before c.args.amount.now bit i in_amount) in
    record {
      slots = c.move_bits.ensures.fills.slots ∙ so_far.slots;
      value = λ i h.
          let long : length (value i) ≡ length order = length-moved (moves i) (fill i) places (lane_bits lane file order i) ∙ law.long file order i in
          let one : moves i ≡ (is_one (get_or (amount i) bit X) && not (not (all_known (amount i)))) =
          c.and-moves.ensures i h
          ∙ ap₂ ◌&&◌ (c.one.ensures.lanes i h ∙ ap is_one (c.load.ensures.lanes i ∙ digit i)) (c.not.ensures i h ∙ ap not (c.unknown_lanes-unknown.ensures i h)) in
          law.stands value order (length to) i file after h long (sym (length-turns left to)) c.move_bits.ensures.fills
          ∙ ap₂ (λ (m : Bool) (n : ℕ). moved m (fill i) n (lane_bits lane file order i)) one power
          ∙ ap (λ (r : BitList). moved (is_one (get_or (amount i) bit X) && not (not (all_known (amount i)))) (fill i) (2 ^ bit) r) (so_far.value i h)
          ∙ moves_next left (fill i) (out i) (a i) (amount i) bit (omega (arith, in_amount, law.long before c.args.amount.now i));
      kept = λ slot none. c.move_bits.ensures.fills.kept slot (turns_none left to slot none) ∙ so_far.kept slot none;
      ticked = let one_more : (bit + 1) * length to ≡ bit * length to + length to = omega arith in omega (arith, one_more, so_far.ticked, c.move_bits.ensures.ticked);
    }

pub returns-clause-value : goal.returns-clause-value
returns-clause-value g c = λ i h.
    let law = c.filling_law.ensures in
    let lane = g.W.Word.lane in
    let before = c.args.file.now in
    let file = c.loop-bit.file in
    let left = c.args.left in
    let to = c.args.to.now in
    let moving = c.moving_bits-moving.result in
    let fill : Bit4 = pair_lane lane c.args.fill i in
    let a : BitList = lane_bits lane before c.args.a.now i in
    let amount : BitList = lane_bits lane before c.args.amount.now i in
    let all : c.loop-bit.bit ≡ moving = omega arith in
    let w_is : length to ≡ length a = sym (law.long before c.args.a.now i ∙ c.requires.a_length) in
    let m_is : length c.args.amount.now ≡ length amount = sym (law.long before c.args.amount.now i) in
    sym (turns_twice left (lane_bits lane file to i))
    ∙ ap (λ (r : BitList). turns left r)
    (sym (map-turns left (λ (slot : ℕ). slot_lane lane file slot i) to)
    ∙ c.loop-bit.invariant.value i h
    ∙ ap (λ (n : ℕ). moved_so_far left fill (list_any is_one (drop moving amount)) a amount n) all)
    ∙ moves_end left fill a amount moving (c.moving_bits-moving.ensures ∙ ap₂ (λ (w m : ℕ). moving_bits w m) w_is m_is)

pub returns-clause-others : goal.returns-clause-others
returns-clause-others g c = record {
  slots = c.loop-bit.invariant.slots;
  kept = λ slot none _. c.loop-bit.invariant.kept slot (λ k l e. none (k, l, get_or_default c.args.to.now k slot 0 l ∙ e));
}
