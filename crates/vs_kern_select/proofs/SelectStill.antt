-- Arguments stay as they were while a value is stored.
use Rattle.std.proofs.Common.{◌≡◌, ◌≢◌, ℕ, ◌<◌, ◌≤◌, Bool, Option, List, length, get_or, slice_get, sym, ap, ◌∙◌, arith}
use Rattle.std.proofs.lemmas.List.{ext_get_or}
use Rattle.vs_four.specs.declared.Bit4.TheVariants.{X}
use Rattle.vs_four.specs.Logic.{BitList}
use Rattle.vs_plane.specs.declared.pairs.Pair.{Pair}
use Rattle.vs_plane.specs.Lanes.{lane_or_x}
use Rattle.vs_plane.specs.Kernels.{lane_bits, AreApart, Fills, FillingComputes}

pub still : {W : Type 0} (lane : W → ℕ → Bool) (lanes : ℕ) → FillingComputes lane lanes → (value : ℕ → BitList) (to : List ℕ) (done : ℕ) (before file : List (Pair W)) (arg : List ℕ) (i : ℕ)
    → AreApart arg to → done ≤ length to → Fills lane lanes value to done before file
    → lane_bits lane file arg i ≡ lane_bits lane before arg i
still lane lanes law value to done before file arg i apart within fills =
    ext_get_or X (lane_bits lane file arg i) (lane_bits lane before arg i)
    (law.long file arg i ∙ sym (law.long before arg i))
    (λ k h. law.bit file arg k i (omega (arith, h, law.long file arg i)) ∙ law.reads value to done before file arg k i apart within (omega (arith, h, law.long file arg i)) fills)

-- so they do where no slot but those of the value was written
pub unchanged : {W : Type 0} (lane : W → ℕ → Bool) (lanes : ℕ) → FillingComputes lane lanes → (to : List ℕ) (before file : List (Pair W)) (arg : List ℕ) (i : ℕ)
    → AreApart arg to → ((slot : ℕ) → ((k : ℕ) → k < length to → get_or to k 0 ≢ slot) → slice_get file slot ≡ slice_get before slot)
    → lane_bits lane file arg i ≡ lane_bits lane before arg i
unchanged {W} lane lanes law to before file arg i apart kept =
    ext_get_or X (lane_bits lane file arg i) (lane_bits lane before arg i)
    (law.long file arg i ∙ sym (law.long before arg i))
    (λ k h.
    let in_arg : k < length arg = omega (arith, h, law.long file arg i) in
    law.bit file arg k i in_arg
    ∙ ap (λ (o : Option (Pair W)). lane_or_x lane o i) (kept (get_or arg k 0) (λ j l e. apart.differ k j in_arg l (sym e)))
    ∙ sym (law.bit before arg k i in_arg))
