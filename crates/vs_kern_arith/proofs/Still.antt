-- Arguments stay as they were while a value is stored.
use Rattle.std.proofs.Common.{◌≡◌, ℕ, ◌<◌, ◌≤◌, Bool, true, false, refl, List, length, get_or, slice_get, Option, sym, ap, ◌∙◌, arith}
use Rattle.std.proofs.lemmas.List.{ext_get_or}
use Rattle.vs_four.specs.declared.Bit4.TheVariants.{X}
use Rattle.vs_four.specs.Logic.{BitList}
use Rattle.vs_plane.specs.declared.pairs.Pair.{Pair}
use Rattle.vs_four.specs.declared.Bit4.{Bit4}
use Rattle.vs_plane.specs.Lanes.{decode, lane_or_x, pair_lane, value_bit}
use Rattle.vs_plane.specs.Kernels.{lane_bits, AreApart, Fills, FillingComputes}

pub still : {W : Type 0} (lane : W → ℕ → Bool) (lanes : ℕ) → FillingComputes lane lanes → (value : ℕ → BitList) (to : List ℕ) (done : ℕ) (before file : List (Pair W)) (arg : List ℕ) (i : ℕ)
    → AreApart arg to → done ≤ length to → Fills lane lanes value to done before file
    → lane_bits lane file arg i ≡ lane_bits lane before arg i
still lane lanes law value to done before file arg i apart within fills =
    ext_get_or X (lane_bits lane file arg i) (lane_bits lane before arg i)
    (law.long file arg i ∙ sym (law.long before arg i))
    (λ k h. law.bit file arg k i (omega (arith, h, law.long file arg i)) ∙ law.reads value to done before file arg k i apart within (omega (arith, h, law.long file arg i)) fills)

-- the bits of slots whose planes are as they were
pub unmoved : {W : Type 0} (lane : W → ℕ → Bool) (lanes : ℕ) → FillingComputes lane lanes → (before file : List (Pair W)) (arg : List ℕ) (i : ℕ)
    → ((k : ℕ) → k < length arg → slice_get file (get_or arg k 0) ≡ slice_get before (get_or arg k 0))
    → lane_bits lane file arg i ≡ lane_bits lane before arg i
unmoved {W} lane lanes law before file arg i same =
    ext_get_or X (lane_bits lane file arg i) (lane_bits lane before arg i)
    (law.long file arg i ∙ sym (law.long before arg i))
    (λ k h.
    let in_arg : k < length arg = omega (arith, h, law.long file arg i) in
    law.bit file arg k i in_arg ∙ ap (λ (o : Option (Pair W)). lane_or_x lane o i) (same k in_arg) ∙ sym (law.bit before arg k i in_arg))

-- a bit's value plane
plane_is : (v u : Bool) → v ≡ value_bit (decode v u)
plane_is true true = refl
plane_is true false = refl
plane_is false true = refl
plane_is false false = refl

pub value_plane_is : {W : Type 0} (lane : W → ℕ → Bool) (pair : Pair W) (bit : Bit4) (i : ℕ) → pair_lane lane pair i ≡ bit → lane pair.value i ≡ value_bit bit
value_plane_is lane pair bit i e = plane_is (lane pair.value i) (lane pair.unknown i) ∙ ap value_bit e
