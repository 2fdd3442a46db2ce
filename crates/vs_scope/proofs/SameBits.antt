-- Values that are the same bit by bit.
use Rattle.std.proofs.Common.{◌≡◌, Bool, true, false, ◌&&◌, [], ◌∷◌, length, refl, sym, ap, ◌∙◌, arith}
use Rattle.vs_four.specs.declared.Bit4.{Bit4}
use Rattle.vs_four.specs.declared.Bit4.TheVariants.{One}
use Rattle.vs_four.specs.Logic.{BitList, map2, fold_with, identical}
use Rattle.vs_four.specs.Tables.{same, and_bit, of_bool, same_bit}
use Rattle.vs_elaborated.specs.Constructs.{same_bits}

and_known : (a b : Bool) → and_bit (of_bool a) (of_bool b) ≡ of_bool (a && b)
and_known true true = refl
and_known true false = refl
and_known false true = refl
and_known false false = refl

and_assoc : (a b c : Bool) → ((a && b) && c) ≡ (a && (b && c))
and_assoc true b c = refl
and_assoc false b c = refl

and_true : (a : Bool) → a ≡ (a && true)
and_true true = refl
and_true false = refl

folded : (b : Bool) (xs ys : BitList) → length xs ≡ length ys → fold_with and_bit (of_bool b) (map2 same_bit xs ys) ≡ of_bool (b && same_bits xs ys)
folded b [] [] h = ap of_bool (and_true b)
folded b [] (y ∷ ys) h = cc
folded b (x ∷ xs) [] h = cc
folded b (x ∷ xs) (y ∷ ys) h =
    ap (λ (z : Bit4). fold_with and_bit z (map2 same_bit xs ys)) (and_known b (same x y)) ∙ folded (b && same x y) xs ys (let k : length xs ≡ length ys = omega (arith, h) in k) ∙ ap of_bool (and_assoc b (same x y) (same_bits xs ys))

identical_is : (xs ys : BitList) → length xs ≡ length ys → identical xs ys ≡ of_bool (same_bits xs ys)
identical_is xs ys h = folded true xs ys h

pub one_same : (xs ys : BitList) (r : Bit4) → length xs ≡ length ys → r ≡ identical xs ys → r ≡ One → true ≡ same_bits xs ys
one_same xs ys r h e k = by (same_bits xs ys) (sym (identical_is xs ys h) ∙ sym e ∙ k)
  where
    by : (b : Bool) → of_bool b ≡ One → true ≡ b
    by true m = refl
    by false m = cc

pub other_same : (xs ys : BitList) (r : Bit4) → length xs ≡ length ys → r ≡ identical xs ys → (r ≡ One → ⊥) → false ≡ same_bits xs ys
other_same xs ys r h e k = by (same_bits xs ys) (e ∙ identical_is xs ys h)
  where
    by : (b : Bool) → r ≡ of_bool b → false ≡ b
    by true m = absurd (k m)
    by false m = refl
