-- Choices of whole vectors.
use Rattle.std.proofs.Common.{◌≡◌, ℕ, Bool, true, false, not, if◌then◌else◌, List, [], ◌∷◌, length, refl, ap, arith}
use Rattle.vs_four.specs.declared.Bit4.{Bit4}
use Rattle.vs_four.specs.declared.Bit4.TheVariants.{Zero, One, X, Z}
use Rattle.vs_four.specs.Tables.{is_one, not_bit}
use Rattle.vs_four.specs.Logic.{BitList, map2, choose as choose_by}
use Rattle.vs_plane.specs.declared.pairs.Pair.{Pair}
use Rattle.vs_plane.specs.Kernels.{lane_bits}
use Rattle.vs_kern_select.specs.Matches.{chosen_bit}

all_first : (second : Bool) (p q : BitList) → length p ≡ length q → map2 (chosen_bit true second) p q ≡ p
all_first second [] q h = refl
all_first second (x ∷ xs) [] h = absurd (let n : ⊥ = omega arith in n)
all_first second (x ∷ xs) (y ∷ ys) h = ap (λ (v : BitList). x ∷ v) (all_first second xs ys (omega arith))

all_second : (p q : BitList) → length p ≡ length q → map2 (chosen_bit false true) p q ≡ q
all_second [] [] h = refl
all_second [] (y ∷ ys) h = absurd (let n : ⊥ = omega arith in n)
all_second (x ∷ xs) [] h = absurd (let n : ⊥ = omega arith in n)
all_second (x ∷ xs) (y ∷ ys) h = ap (λ (v : BitList). y ∷ v) (all_second xs ys (omega arith))

-- `?:`, by the lanes that take the first value and those that take the second one
pub chosen_is : (t : Bit4) (p q : BitList) → length p ≡ length q → map2 (chosen_bit (is_one t) (is_one (not_bit t))) p q ≡ choose_by t p q
chosen_is Zero p q h = all_second p q h
chosen_is One p q h = all_first false p q h
chosen_is X p q h = refl
chosen_is Z p q h = refl

-- the join of `if`
pub branched_is : (t : Bit4) (p q : BitList) → length p ≡ length q → map2 (chosen_bit (is_one t) (not (is_one t))) p q ≡ (if is_one t then p else q)
branched_is Zero p q h = all_second p q h
branched_is One p q h = all_first false p q h
branched_is X p q h = all_second p q h
branched_is Z p q h = all_second p q h

-- the bits of two vectors chosen, by another choice in each lane
abbrev pub chosen_bits : {W : Type 0} → (W → ℕ → Bool) → (ℕ → Bit4 → Bit4 → Bit4) → List (Pair W) → List ℕ → List ℕ → ℕ → BitList
chosen_bits lane f file p q i = map2 (f i) (lane_bits lane file p i) (lane_bits lane file q i)
