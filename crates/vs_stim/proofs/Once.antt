-- Columns of outputs of which no two are of one output.
use Rattle.std.proofs.Common.{◌≡◌, ◌∙◌, ◌&&◌, ◌||◌, ℕ, Bool, true, false, not, nat_eq, List, [], ◌∷◌, ◌++◌, sym, ap, refl, arith}
use Rattle.std.proofs.lemmas.Bool.Decides.{nat_tests}
use Rattle.vs_stim.specs.declared.input.Expected.{Expected}
use Rattle.vs_stim.specs.Header.{is_expected}
use Rattle.vs_stim.specs.Wants.{is_each_once}

swapped : (m n : ℕ) → nat_eq m n ≡ nat_eq n m
swapped m n = grind (arith, nat_tests)

-- whether an output has a column, where there is one more
expected_push : (n : ℕ) (es : List Expected) (e : Expected) → is_expected n (es ++ e ∷ []) ≡ (is_expected n es || nat_eq e.output n)
expected_push n [] e = or_false (nat_eq e.output n)
  where
    or_false : (b : Bool) → (b || false) ≡ b
    or_false true = refl
    or_false false = refl
expected_push n (x ∷ es) e = ap (λ (b : Bool). nat_eq x.output n || b) (expected_push n es e) ∙ sym (or_assoc (nat_eq x.output n) (is_expected n es) (nat_eq e.output n))
  where
    or_assoc : (a b c : Bool) → ((a || b) || c) ≡ (a || (b || c))
    or_assoc true b c = refl
    or_assoc false b c = refl

once_on : (a b c d : Bool) → (a || b) ≡ false → (not c && d) ≡ true → (not (c || a) && true) ≡ true
once_on true b c d h k = absurd (cc)
once_on false b true d h k = absurd (cc)
once_on false b false d h k = refl

rest_of : (a b : Bool) → (a || b) ≡ false → b ≡ false
rest_of true b h = absurd (cc)
rest_of false b h = h

part_of : (c d : Bool) → (not c && d) ≡ true → d ≡ true
part_of true d k = absurd (cc)
part_of false d k = k

-- one more column, of an output that has none
pub once_push : (es : List Expected) (e : Expected) → is_each_once es ≡ true → is_expected e.output es ≡ false → is_each_once (es ++ e ∷ []) ≡ true
once_push [] e once new = refl
once_push (x ∷ es) e once new =
    let here = nat_eq x.output e.output in
    let later = is_expected x.output es in
    let rest = once_push es e (part_of later (is_each_once es) once) (rest_of here (is_expected e.output es) new) in
    ap (λ (b : Bool). not b && is_each_once (es ++ e ∷ [])) (expected_push x.output es e ∙ ap (λ (b : Bool). later || b) (swapped e.output x.output))
    ∙ ap (λ (b : Bool). not (later || here) && b) rest
    ∙ once_on here (is_expected e.output es) later (is_each_once es) new once
