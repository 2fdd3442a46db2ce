-- Digits of which some stand for any bit, as planes.
use Rattle.std.proofs.Common.{◌≡◌, ℕ, zero, suc, ◌+◌, ◌*◌, ◌/◌, ◌%◌, ◌^◌, ◌<◌, ◌≤◌, ◌≢◌, Bool, true, false, nat_eq, List, [], ◌∷◌, ◌++◌, length, take, refl, sym, ap, ◌∙◌, subst, arith, lit≤, add-one, length-append, append-nil}
use Rattle.std.proofs.Math.Nat.{mul_assoc, mul_comm, pow-suc, mul-lt-mul_of_pos_right, pow-le-pow_right}
use Rattle.std.proofs.lemmas.Nat.{pow_pos, pow-add}
use Rattle.vs_four.specs.declared.Bit4.{Bit4}
use Rattle.vs_stim.specs.declared.wanted.Digit.{Digit}
use Rattle.vs_stim.specs.declared.wanted.Digit.TheVariants.{Exactly, Any}
use Rattle.vs_stim.specs.Row.{ReadsOn}
use Rattle.vs_stim.specs.Wanted.{marked, exactly, ReadsWanted}
use Rattle.vs_stim.proofs.Ahead.{exactly_read, below_more}

pub marked_length : (bits : List Bit4) (any : ℕ) → length (marked bits any) ≡ length bits
unfolding marked
marked_length [] any = refl
marked_length (b ∷ bits) any = ap suc (marked_length bits (any / 2))

-- the first digit, and the others
digit_of : Bit4 → Bool → Digit
digit_of b zero_mark = elim zero_mark [ true ↦ Exactly b | false ↦ Any ]

first_marked : (b : Bit4) (bits : List Bit4) (any low : ℕ) (z : Bool) → low < 2 → nat_eq low 0 ≡ z → marked (b ∷ bits) (2 * any + low) ≡ digit_of b z ∷ marked bits any
unfolding marked digit_of
first_marked b bits any low z few e =
    let mark : (2 * any + low) % 2 ≡ low = omega arith in
    let rest : (2 * any + low) / 2 ≡ any = omega arith in
    (λ i. (elim (nat_eq (mark i) 0) as (λ _. Digit) [ true ↦ Exactly b | false ↦ Any ]) ∷ marked bits (rest i))
    ∙ ap (λ z. (elim z as (λ _. Digit) [ true ↦ Exactly b | false ↦ Any ]) ∷ marked bits any) e

-- a bit below the others
pub marked_exactly : (b : Bit4) (bits : List Bit4) (any twice : ℕ) → twice ≡ 2 * any → marked (b ∷ bits) twice ≡ Exactly b ∷ marked bits any
unfolding digit_of
marked_exactly b bits any twice e = ap (marked (b ∷ bits)) (e ∙ omega arith) ∙ first_marked b bits any 0 true (omega arith) refl

-- one that stands for any below the others
pub marked_any : (b : Bit4) (bits : List Bit4) (any : ℕ) → marked (b ∷ bits) (2 * any + 1) ≡ Any ∷ marked bits any
unfolding digit_of
marked_any b bits any = first_marked b bits any 1 false (omega arith) refl

-- bits below the others
pub marked_read : (bs bits : List Bit4) (any : ℕ) → marked (bs ++ bits) (any * 2 ^ length bs) ≡ exactly bs ++ marked bits any
marked_read [] bits any = ap (marked bits) (omega arith)
marked_read (b ∷ bs) bits any =
    let twice : any * 2 ^ length (b ∷ bs) ≡ 2 * (any * 2 ^ length bs) = double any (2 ^ length bs) (2 ^ length (b ∷ bs)) (pow-suc 2 (length bs)) in
    marked_exactly b (bs ++ bits) (any * 2 ^ length bs) (any * 2 ^ length (b ∷ bs)) twice ∙ ap (λ ds. Exactly b ∷ ds) (marked_read bs bits any)
  where
    double : (n p q : ℕ) → q ≡ p * 2 → n * q ≡ 2 * (n * p)
    double n p q e = ap (λ x. n * x) e ∙ sym (mul_assoc n p 2) ∙ mul_comm (n * p) 2

-- none that stands for any
pub marked_none : (bs bits : List Bit4) → marked (bs ++ bits) 0 ≡ exactly bs ++ marked bits 0
marked_none bs bits = ap (marked (bs ++ bits)) (omega arith) ∙ marked_read bs bits 0

-- bits of which none stands for any
pub marked_exact : (bits : List Bit4) → marked bits 0 ≡ exactly bits
unfolding marked
marked_exact bits = ap (λ bs. marked bs 0) (sym (append-nil bits)) ∙ marked_none bits [] ∙ append-nil (exactly bits)

pub view_length : (bits : List Bit4) (any : ℕ) (ds : List Digit) → marked bits any ≡ ds → length bits ≡ length ds
view_length bits any ds e = sym (marked_length bits any) ∙ ap (λ xs. length xs) e

-- so many bits were read
read_length : (bytes : List ℕ) (count : ℕ) (high all : List Bit4) (r : ReadsOn bytes count high all) → length all ≡ length high + count → length r.bits ≡ count
read_length bytes count high all r h =
    let e : length all ≡ length (r.bits ++ high) = ap (λ xs. length xs) r.below in
    omega (arith, h, e, length-append r.bits high)

pub reads_marked : (bytes : List ℕ) (count : ℕ) (high all : List Bit4) (any after : ℕ) → ReadsOn bytes count high all → length all ≡ length high + count → after ≡ any * 2 ^ count
    → ReadsWanted bytes count (marked high any) (marked all after)
reads_marked bytes count high all any after r h e = record {
  digits = exactly r.bits;
  are = exactly_read (take count bytes) r.bits r.are;
  below = (λ i. marked (r.below i) ((e ∙ ap (λ n. any * 2 ^ n) (sym (read_length bytes count high all r h))) i)) ∙ marked_read r.bits high any;
}

-- a mark that is there has its digit
pub some_digit : (n any : ℕ) → any ≢ 0 → any < 2 ^ n → 1 ≤ n
some_digit zero any h k = absurd (h (omega (arith, k)))
some_digit (suc n) any h k = omega arith

pub shifted_below : (any n k : ℕ) → any < 2 ^ n → any * 2 ^ k < 2 ^ (n + k)
shifted_below any n k h = subst (λ m. any * 2 ^ k < m) (sym (pow-add 2 n k)) (mul-lt-mul_of_pos_right h (pow_pos k))

pub shifted_fits : (any n k : ℕ) → any < 2 ^ n → n + k ≤ 64 → any * 2 ^ k % 18446744073709551616 ≡ any * 2 ^ k
shifted_fits any n k h few =
    let below = shifted_below any n k h in
    let most : 2 ^ (n + k) ≤ 2 ^ 64 = pow-le-pow_right (lit≤ tt) few in
    omega (arith, below, most)

-- one digit more
pub pushed_below : (bits new : List Bit4) (b : Bit4) (any low : ℕ) → new ≡ b ∷ bits → any < 2 ^ length bits → low < 2 → 2 * any + low < 2 ^ length new
pushed_below bits new b any low e h k =
    let long : length new ≡ length bits + 1 = ap (λ xs. length xs) e ∙ sym (add-one (length bits)) in
    subst (λ m. 2 * any + low < 2 ^ m) (sym long) (below_more (length bits) any low h k)
