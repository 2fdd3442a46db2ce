-- Whether bits are known, by their planes.
use Rattle.std.proofs.Common.{◌≡◌, ℕ, zero, suc, ◌/◌, ◌%◌, ◌^◌, ◌<◌, ◌&&◌, ◌==◌, List, refl, sym, ap, ap₂, ◌∙◌, arith}
use Rattle.std.proofs.lemmas.Bool.{eq-eqb}
use Rattle.std.proofs.lemmas.Bool.Decides.{nat_tests}
use Rattle.std.proofs.Math.Nat.{pow-suc}
use Rattle.vs_four.specs.declared.Bit4.{Bit4}
use Rattle.vs_four.specs.Planes.{decode, bits_of_planes}
use Rattle.vs_four.specs.PlanesBack.{by_bit}
use Rattle.vs_four.specs.Tables.{is_known}
use Rattle.vs_stim.specs.Vectors.{all_known}

known-decode : (v u : ℕ) → is_known (decode (v % 2) (u % 2)) ≡ (u % 2 == 0)
known-decode v u = by_bit (λ m. is_known (decode m (u % 2)) ≡ (u % 2 == 0)) (by_bit (λ k. is_known (decode 0 k) ≡ (k == 0)) refl refl u) (by_bit (λ k. is_known (decode 1 k) ≡ (k == 0)) refl refl u) v

halves_zero : (u : ℕ) → (u % 2 == 0 && u / 2 == 0) ≡ (u == 0)
halves_zero u = grind (arith, nat_tests)

-- all bits are known where the second plane is 0
known-planes : (n v u : ℕ) → u < 2 ^ n → all_known (bits_of_planes n v u) ≡ (u == 0)
unfolding bits_of_planes
known-planes zero v u h = sym (eq-eqb u 0 (omega (arith, h)))
known-planes (suc n) v u h =
    let half : u / 2 < 2 ^ n = omega (arith, pow-suc 2 n, h) in
    ap₂ ◌&&◌ (known-decode v u) (known-planes n (v / 2) (u / 2) half) ∙ halves_zero u

pub bits_known : (n v u : ℕ) (bits : List Bit4) → bits_of_planes n v u ≡ bits → u < 2 ^ n → (u == 0) ≡ all_known bits
bits_known n v u bits e h = sym (known-planes n v u h) ∙ ap all_known e
