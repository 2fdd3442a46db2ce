-- Digits of a value, from the most significant one on.
use Rattle.std.proofs.Common.{◌≡◌, ℕ, zero, suc, ◌/◌, ◌%◌, ◌<◌, ◌≤◌, true, false, [], ◌∷◌, ◌++◌, length, take, refl, sym, ap, ◌∙◌, arith}
use Rattle.std.specs.Prelude.{reverse, slice_get, Some}
use Rattle.std.proofs.Math.Seq.{take-suc}
use Rattle.std.proofs.lemmas.Option.{get_or_from_slice_get}
use Rattle.std.proofs.lemmas.List.{reverse-append}
use Rattle.vs_four.specs.declared.Bit4.{Bit4}
use Rattle.vs_four.specs.Logic.{BitList}
use Rattle.vs_four.specs.Planes.{decode, bits_of_planes}
use Rattle.vs_vcd.specs.Values.{is_redundant, shortest}

-- the bit before the others
reverse-take_more : (bits : BitList) (m n : ℕ) (b : Bit4) → m ≡ suc n → n < length bits → slice_get bits n ≡ Some b → reverse (take m bits) ≡ b ∷ reverse (take n bits)
reverse-take_more bits m n b s h e =
    ap (λ (k : ℕ). reverse (take k bits)) s
    ∙ ap (λ (bs : BitList). reverse bs) (take-suc bits n b h ∙ ap (λ (x : Bit4). take n bits ++ x ∷ []) (get_or_from_slice_get bits n b b e))
    ∙ reverse-append (take n bits) (b ∷ [])

-- two bits before the others
two_before : (bits : BitList) (k m n : ℕ) (a b : Bit4) → k ≡ suc m → m ≡ suc n → m < length bits → slice_get bits m ≡ Some a → slice_get bits n ≡ Some b → reverse (take k bits) ≡ a ∷ b ∷ reverse (take n bits)
two_before bits k m n a b s t h p q =
    let below : n < length bits = omega arith in
    reverse-take_more bits k m a s h p ∙ ap (λ (bs : BitList). a ∷ bs) (reverse-take_more bits m n b t below q)

-- one leading digit less
pub shortest-redundant : (bits : BitList) (k m n : ℕ) (a b : Bit4) → k ≡ suc m → m ≡ suc n → m < length bits → slice_get bits m ≡ Some a → slice_get bits n ≡ Some b → is_redundant a b ≡ true
    → shortest (reverse (take m bits)) ≡ shortest (reverse (take k bits))
shortest-redundant bits k m n a b s t h p q r =
    let below : n < length bits = omega arith in
    ap shortest (reverse-take_more bits m n b t below q) ∙ sym (dropped a b (reverse (take n bits)) r) ∙ sym (ap shortest (two_before bits k m n a b s t h p q))
  where
    dropped : (a b : Bit4) (ds : BitList) → is_redundant a b ≡ true → shortest (a ∷ b ∷ ds) ≡ shortest (b ∷ ds)
    dropped a b ds r = rw (r, shortest) refl

-- digits of which the first is shown
pub shortest-shown : (bits : BitList) (k m n : ℕ) (a b : Bit4) → k ≡ suc m → m ≡ suc n → m < length bits → slice_get bits m ≡ Some a → slice_get bits n ≡ Some b → is_redundant a b ≡ false
    → shortest (reverse (take k bits)) ≡ reverse (take k bits)
shortest-shown bits k m n a b s t h p q r =
    ap shortest (two_before bits k m n a b s t h p q) ∙ kept a b (reverse (take n bits)) r ∙ sym (two_before bits k m n a b s t h p q)
  where
    kept : (a b : Bit4) (ds : BitList) → is_redundant a b ≡ false → shortest (a ∷ b ∷ ds) ≡ a ∷ b ∷ ds
    kept a b ds r = rw (r, shortest) refl

-- a lone digit
pub shortest-one : (bits : BitList) (n : ℕ) → n ≤ 1 → shortest (reverse (take n bits)) ≡ reverse (take n bits)
shortest-one bits zero h = refl
shortest-one [] (suc zero) h = refl
shortest-one (b ∷ bits) (suc zero) h = refl
shortest-one bits (suc (suc n)) h = absurd (omega arith)

-- the planes of the least significant bits
pub planes-take : (m n v u : ℕ) → m ≤ n → take m (bits_of_planes n v u) ≡ bits_of_planes m v u
unfolding bits_of_planes
planes-take zero n v u h = refl
planes-take (suc m) zero v u h = absurd (omega arith)
planes-take (suc m) (suc n) v u h = ap (λ bs. decode (v % 2) (u % 2) ∷ bs) (planes-take m n (v / 2) (u / 2) (omega arith))
