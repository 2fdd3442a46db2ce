-- Constants' slots, one more.
use Rattle.std.proofs.Common.{◌≡◌, ℕ, zero, suc, ◌+◌, ◌-◌, ◌<◌, List, [], ◌∷◌, ◌++◌, length, get_or, take, Some, slice_get, ap, ◌∙◌, refl, arith, add-one}
use Rattle.std.proofs.lemmas.List.{map-append}
use Rattle.vs_four.specs.declared.Bit4.{Bit4}
use Rattle.vs_four.specs.Logic.{BitList}
use Rattle.vs_four.specs.Lengths.{last_or}
use Rattle.vs_values.specs.Constants.{constant_slot, constant_slots}

some_is : (x y : Bit4) → Some x ≡ Some y → x ≡ y
some_is x y h = cc

take_get : (bits : BitList) (n : ℕ) (b : Bit4) → slice_get bits n ≡ Some b → take (suc n) bits ≡ take n bits ++ b ∷ []
take_get [] n b h = cc
take_get (x ∷ bits) zero b h = ap (λ (y : Bit4). y ∷ []) (some_is x b h)
take_get (x ∷ bits) (suc n) b h = ap (λ (ys : BitList). x ∷ ys) (take_get bits n b h)

pub constants_more : (bits : BitList) (n : ℕ) (b : Bit4) → slice_get bits n ≡ Some b → constant_slots (take (n + 1) bits) ≡ constant_slots (take n bits) ++ constant_slot b ∷ []
constants_more bits n b h = ap (λ k. constant_slots (take k bits)) (add-one n) ∙ ap constant_slots (take_get bits n b h) ∙ map-append constant_slot (take n bits) (b ∷ [])

other : (zs : List ℕ) (k e f : ℕ) → k < length zs → get_or zs k e ≡ get_or zs k f
other [] k e f m = absurd (omega arith)
other (z ∷ zs) zero e f m = refl
other (z ∷ zs) (suc k) e f m = other zs k e f (omega arith)

pub last_is : (xs : List ℕ) (d : ℕ) → 0 < length xs → get_or xs (length xs - 1) d ≡ last_or d xs
last_is [] d l = absurd (omega arith)
last_is (x ∷ []) d l = let z : length (x ∷ []) - 1 ≡ 0 = omega arith in ap (λ k. get_or (x ∷ []) k d) z
last_is (x ∷ y ∷ ys) d l =
    let place : length (x ∷ y ∷ ys) - 1 ≡ suc (length (y ∷ ys) - 1) = omega arith in
    ap (λ k. get_or (x ∷ y ∷ ys) k d) place ∙ other (y ∷ ys) (length (y ∷ ys) - 1) d x (omega arith) ∙ last_is (y ∷ ys) x (omega arith)
