-- Lengths of values before they are extended to their context.
use Rattle.std.proofs.Common.{◌≡◌, ℕ, ◌-◌, ◌≤◌, Bool, false, List, length, replicate, min, ◌⊎◌, inl, inr, arith, ap, sym, ◌∙◌, subst}
use Rattle.std.proofs.lemmas.List.{length-append}
use Rattle.vs_four.specs.declared.Bit4.TheVariants.{X}
use Rattle.vs_four.specs.Logic.{BitList}
use Rattle.vs_four.specs.Lengths.{extend_with}
use Rattle.vs_design.specs.Expressions.{Expression, Unary, Binary, UnaryOp, BinaryOp, Way, InContext, Own, Compared, Shifted, Raised, unary_way, way, width, sign}
use Rattle.vs_design.specs.Values.{value, constant_value, apply_unary, apply_binary, left_width, right_width, left_sign, right_sign}
use Rattle.vs_design.proofs.Lengths.{length_value, unary_fits}
use Rattle.vs_base.specs.Applied.{HasLengths}

-- what is extended to a length was no longer
pub extend_fits : {A : Type 0} (fill : A) (w : ℕ) (xs : List A) → length (extend_with fill w xs) ≡ w → length xs ≤ w
extend_fits fill w xs h = let e = length-append xs (replicate (w - length xs) fill) in omega (arith, e, h)

-- what an operator makes of its operands, by how it takes them
in_way : (op : BinaryOp) (e f : Expression) (w : ℕ) (g : Bool) (y : Way) → way op ≡ y → width (Binary op e f) ≤ w
    → length (apply_binary op (left_sign y g (sign e) (sign f)) (right_sign y g (sign e) (sign f)) (value e (left_width y w (width e) (width f)) (left_sign y g (sign e) (sign f)) (λ b. X)) (value f (right_width y w (width e) (width f)) (right_sign y g (sign e) (sign f)) (λ b. X))) ≤ w
in_way op e f w g y h k =
    let P : Way → Type 0 = λ y. length (apply_binary op (left_sign y g (sign e) (sign f)) (right_sign y g (sign e) (sign f))
    (value e (left_width y w (width e) (width f)) (left_sign y g (sign e) (sign f)) (λ b. X))
    (value f (right_width y w (width e) (width f)) (right_sign y g (sign e) (sign f)) (λ b. X))) ≤ w in
    let l : P (way op) = extend_fits _ w _ (length_value (Binary op e f) w g (λ b. X) k) in
    subst P h l

-- operators in their context
pub binary_within : (op : BinaryOp) (e f : Expression) (w : ℕ) (g : Bool) (a b : BitList) → way op ≡ InContext
    → a ≡ value e w g (λ b. X) → b ≡ value f w g (λ b. X) → width (Binary op e f) ≤ w → length (apply_binary op g g a b) ≤ w
binary_within op e f w g a b h p q k =
    subst (λ y. length (apply_binary op g g y b) ≤ w) (sym p) (subst (λ y. length (apply_binary op g g (value e w g (λ b. X)) y) ≤ w) (sym q) (in_way op e f w g InContext h k))

-- and those whose second operand stands by itself
pub beside_within : (op : BinaryOp) (e f : Expression) (w : ℕ) (g : Bool) (a b : BitList) → (way op ≡ Shifted) ⊎ (way op ≡ Raised)
    → a ≡ value e w g (λ b. X) → b ≡ constant_value f → width (Binary op e f) ≤ w → length (apply_binary op g (sign f) a b) ≤ w
beside_within op e f w g a b h p q k =
    let l : length (apply_binary op g (sign f) (value e w g (λ b. X)) (constant_value f)) ≤ w = elim h [ inl s ↦ in_way op e f w g Shifted s k | inr r ↦ in_way op e f w g Raised r k ] in
    subst (λ y. length (apply_binary op g (sign f) y b) ≤ w) (sym p) (subst (λ y. length (apply_binary op g (sign f) (value e w g (λ b. X)) y) ≤ w) (sym q) l)

-- what is no longer than 65 bits is told in full
told : (n : ℕ) → n ≤ 64 → min 65 n ≡ n
told n h = omega arith

-- the context of an operand is no shorter than it, and as short as that of the operator and the operand itself
pub operand_fits : (op : UnaryOp) (e : Expression) (w c : ℕ) → width e ≤ 64 → width (Unary op e) ≤ w → c ≡ left_width (unary_way op) w (min 65 (width e)) 0 → width e ≤ c
operand_fits op e w c short h k = subst (λ x. width e ≤ x) (sym (k ∙ ap (λ n. left_width (unary_way op) w n 0) (told (width e) short))) (unary_fits op w (width e) h)

pub operand_short : (op : UnaryOp) (n w c : ℕ) → n ≤ 64 → w ≤ 64 → c ≡ left_width (unary_way op) w (min 65 n) 0 → c ≤ 64
operand_short op n w c short most k = by (unary_way op) k
  where
    by : (y : Way) → c ≡ left_width y w (min 65 n) 0 → c ≤ 64
    by InContext e = omega (arith, e)
    by Own e = omega (arith, e)
    by Compared e = omega (arith, e)
    by Shifted e = omega (arith, e)
    by Raised e = omega (arith, e)

-- the operand in its context
pub operand_is : (op : UnaryOp) (e : Expression) (w c : ℕ) (g s : Bool) (a : BitList) → width e ≤ 64 → c ≡ left_width (unary_way op) w (min 65 (width e)) 0 → s ≡ left_sign (unary_way op) g (sign e) false
    → a ≡ value e c s (λ b. X) → a ≡ value e (left_width (unary_way op) w (width e) 0) (left_sign (unary_way op) g (sign e) false) (λ b. X)
operand_is op e w c g s a short k l m = m ∙ ap (λ n. value e n s (λ b. X)) (k ∙ ap (λ n. left_width (unary_way op) w n 0) (told (width e) short)) ∙ ap (λ x. value e (left_width (unary_way op) w (width e) 0) x (λ b. X)) l

-- and what the operator makes of it
pub unary_within : (op : UnaryOp) (e : Expression) (w : ℕ) (g : Bool) (a : BitList)
    → a ≡ value e (left_width (unary_way op) w (width e) 0) (left_sign (unary_way op) g (sign e) false) (λ b. X) → width (Unary op e) ≤ w → length (apply_unary op a) ≤ w
unary_within op e w g a p k = subst (λ x. length (apply_unary op x) ≤ w) (sym p) (extend_fits _ w _ (length_value (Unary op e) w g (λ b. X) k))

-- operands of one length may be taken by any operator
pub equal_lengths : (op : BinaryOp) (a b : BitList) → length a ≡ length b → HasLengths op a b
equal_lengths op a b h = of (way op)
  where
    of : (w : Way) → elim w as (λ x. Type 0) [ InContext ↦ length a ≡ length b | Own ↦ Unit {0} | Compared ↦ length a ≡ length b | Shifted ↦ Unit {0} | Raised ↦ Unit {0} ]
    of InContext = h
    of Own = tt
    of Compared = h
    of Shifted = tt
    of Raised = tt
