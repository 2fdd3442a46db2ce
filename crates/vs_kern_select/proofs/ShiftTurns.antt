-- A vector's slots in the order of the turns, and what is read before it is written.
use Rattle.std.proofs.Common.{◌≡◌, ◌≢◌, ℕ, ◌-◌, ◌<◌, ◌≤◌, Bool, true, false, List, length, get_or, slice_get, Option, sym, ap, ◌∙◌, subst, arith}
use Rattle.std.specs.Prelude.{All}
use Rattle.std.proofs.lemmas.List.{get_or-reverse, get_or_default, get_or_past, length-reverse}
use Rattle.vs_four.specs.declared.Bit4.{Bit4}
use Rattle.vs_four.specs.declared.Bit4.TheVariants.{X}
use Rattle.vs_four.specs.Logic.{BitList}
use Rattle.vs_plane.specs.declared.pairs.Pair.{Pair}
use Rattle.vs_plane.specs.Lanes.{lane_or_x}
use Rattle.vs_plane.specs.Kernels.{lane_bits, AreDifferent, Fills, FillingComputes}
use Rattle.vs_kern_select.specs.Moves.{turns}
use Rattle.vs_kern_select.proofs.ShiftMoves.{by_order}

pub turns_differ : (left : Bool) (to : List ℕ) → AreDifferent to → AreDifferent (turns left to)
turns_differ true to different = record {
  place = λ j k hj hk e.
      let in_j : j < length to = omega (arith, hj, length-reverse to) in
      let in_k : k < length to = omega (arith, hk, length-reverse to) in
      let same : get_or to (length to - 1 - j) 0 ≡ get_or to (length to - 1 - k) 0 = sym (get_or-reverse to j 0 in_j) ∙ e ∙ get_or-reverse to k 0 in_k in
      let place : length to - 1 - j ≡ length to - 1 - k = different.place (length to - 1 - j) (length to - 1 - k) (omega (arith, in_j)) (omega (arith, in_k)) same in
      omega (arith, place, in_j, in_k);
}
turns_differ false to different = different

pub turns_below : (left : Bool) (n : ℕ) (to : List ℕ) (k : ℕ) → All (λ slot. slot < n) to → k < length to → get_or (turns left to) k 0 < n
turns_below true n to k below h = subst (λ (slot : ℕ). slot < n) (sym (get_or-reverse to k 0 h)) (below (length to - 1 - k) 0 (omega (arith, h)))
turns_below false n to k below h = below k 0 h

-- a slot that is none of `to` is none of them in the order of the turns
pub turns_none : (left : Bool) (to : List ℕ) (slot : ℕ) → ((k : ℕ) → k < length to → get_or to k 0 ≢ slot) → (k : ℕ) → k < length to → get_or (turns left to) k 0 ≢ slot
turns_none true to slot none k h = λ e. none (length to - 1 - k) (omega (arith, h)) (sym (get_or-reverse to k 0 h) ∙ e)
turns_none false to slot none k h = none k h

-- the bits of the turns that are still to come are as they were
pub to_come : {W : Type 0} (lane : W → ℕ → Bool) (lanes : ℕ) → FillingComputes lane lanes
    → (value : ℕ → BitList) (to : List ℕ) (done : ℕ) (before file : List (Pair W)) (k i : ℕ) (d : Bit4)
    → AreDifferent to → done ≤ k → Fills lane lanes value to done before file
    → get_or (lane_bits lane file to i) k d ≡ get_or (lane_bits lane before to i) k d
to_come {W} lane lanes law value to done before file k i d different later fills = by_order k (length to)
    (λ h.
    let in_file : k < length (lane_bits lane file to i) = omega (arith, h, law.long file to i) in
    let in_before : k < length (lane_bits lane before to i) = omega (arith, h, law.long before to i) in
    let kept : slice_get file (get_or to k 0) ≡ slice_get before (get_or to k 0) =
    fills.kept (get_or to k 0) (λ j l e.
    let same : j ≡ k = different.place j k (omega (arith, l, later, h)) h e in
    omega (arith, l, later, same)) in
    get_or_default (lane_bits lane file to i) k d X in_file
    ∙ law.bit file to k i h
    ∙ ap (λ (o : Option (Pair W)). lane_or_x lane o i) kept
    ∙ sym (law.bit before to k i h)
    ∙ get_or_default (lane_bits lane before to i) k X d in_before)
    (λ h.
    get_or_past (lane_bits lane file to i) k d (omega (arith, h, law.long file to i))
    ∙ sym (get_or_past (lane_bits lane before to i) k d (omega (arith, h, law.long before to i))))
