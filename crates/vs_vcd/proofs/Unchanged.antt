-- `===` is equality.
use Rattle.std.proofs.Common.{◌≡◌, ◌⊎◌, inl, inr, [], ◌∷◌, length, refl, sym, ap, ◌∙◌, subst, arith}
use Rattle.vs_four.specs.declared.Bit4.{Bit4}
use Rattle.vs_four.specs.declared.Bit4.TheVariants.{Zero, One, X, Z}
use Rattle.vs_four.specs.Tables.{and_bit, same_bit}
use Rattle.vs_four.specs.Logic.{BitList, map2, fold_with, identical}

-- two bits are one, or not the same
one_or_other : (x y : Bit4) → ((x ≡ y) × (same_bit x y ≡ One)) ⊎ (same_bit x y ≡ Zero)
one_or_other Zero Zero = inl (refl, refl)
one_or_other One One = inl (refl, refl)
one_or_other X X = inl (refl, refl)
one_or_other Z Z = inl (refl, refl)
one_or_other Zero One = inr refl
one_or_other Zero X = inr refl
one_or_other Zero Z = inr refl
one_or_other One Zero = inr refl
one_or_other One X = inr refl
one_or_other One Z = inr refl
one_or_other X Zero = inr refl
one_or_other X One = inr refl
one_or_other X Z = inr refl
one_or_other Z Zero = inr refl
one_or_other Z One = inr refl
one_or_other Z X = inr refl

zero_stays : (bits : BitList) → fold_with and_bit Zero bits ≡ Zero
zero_stays [] = refl
zero_stays (b ∷ bits) = zero_stays bits

pub equal_from_identical : (a b : BitList) → length a ≡ length b → identical a b ≡ One → a ≡ b
equal_from_identical [] [] h e = refl
equal_from_identical [] (y ∷ ys) h e = absurd (omega arith)
equal_from_identical (x ∷ xs) [] h e = absurd (omega arith)
equal_from_identical (x ∷ xs) (y ∷ ys) h e =
    let rest : Bit4 → Bit4 = λ (b : Bit4). fold_with and_bit (and_bit One b) (map2 same_bit xs ys) in
    elim (one_or_other x y) [
      | inl p ↦ let same : length xs ≡ length ys = omega arith in
          let tail : xs ≡ ys = equal_from_identical xs ys same (sym (ap rest p.1) ∙ e) in
          ap (λ (b : Bit4). b ∷ xs) p.0 ∙ ap (λ (bs : BitList). y ∷ bs) tail
      | inr z ↦ let zero : Zero ≡ One = sym (zero_stays (map2 same_bit xs ys)) ∙ sym (ap rest z) ∙ e in cc
    ]

identical_self : (a : BitList) → identical a a ≡ One
identical_self [] = refl
identical_self (Zero ∷ a) = identical_self a
identical_self (One ∷ a) = identical_self a
identical_self (X ∷ a) = identical_self a
identical_self (Z ∷ a) = identical_self a

pub identical_from_equal : (a b : BitList) → a ≡ b → identical a b ≡ One
identical_from_equal a b e = subst (λ (c : BitList). identical a c ≡ One) e (identical_self a)
