-- Products of vectors as sums, by the digits of one of them.
use Rattle.std.proofs.Common.{◌≡◌, ℕ, zero, suc, ◌+◌, ◌-◌, ◌*◌, ◌/◌, ◌%◌, ◌^◌, ◌≤◌, Bool, true, false, ◌&&◌, ◌==◌, [], ◌∷◌, length, take, replicate, refl, sym, ap, ◌∙◌, arith}
use Rattle.std.proofs.lemmas.List.{length-take}
use Rattle.std.proofs.Math.Nat.{pow-suc}
use Rattle.vs_four.specs.declared.Bit4.TheVariants.{Zero, One, X, Z}
use Rattle.vs_four.specs.PlanesBack.{by_bit}
use Rattle.vs_four.specs.Tables.{of_bool}
use Rattle.vs_four.specs.Logic.{BitList, all_known}
use Rattle.vs_four.specs.Numbers.{digit, number, bits_of, all_x, if_known, add, sub, mul}
use Rattle.vs_four.specs.Shifts.{move_up}

-- ---- the low bits of a number

length-bits_of : (w n : ℕ) → length (bits_of w n) ≡ w
length-bits_of zero n = refl
length-bits_of (suc w) n = ap suc (length-bits_of w (n / 2))

known_more : (b : Bool) (v : BitList) → all_known v ≡ true → all_known (of_bool b ∷ v) ≡ true
known_more true v h = h
known_more false v h = h

known-bits_of : (w n : ℕ) → all_known (bits_of w n) ≡ true
known-bits_of zero n = refl
known-bits_of (suc w) n = known_more (n % 2 == 1) (bits_of w (n / 2)) (known-bits_of w (n / 2))

low_digit : (n : ℕ) → digit (of_bool (n % 2 == 1)) ≡ n % 2
low_digit n = by_bit (λ d. digit (of_bool (d == 1)) ≡ d) refl refl n

-- a sum doesn't depend on the higher bits of its terms
add_low : (w m n : ℕ) → bits_of w (number (bits_of w m) + n) ≡ bits_of w (m + n)
add_low zero m n = refl
add_low (suc w) m n =
    let r = number (bits_of w (m / 2)) in
    let d = digit (of_bool (m % 2 == 1)) in
    let low : d ≡ m % 2 = low_digit m in
    let h : (d + 2 * r + n) % 2 ≡ (m + n) % 2 = omega (arith, low) in
    let t : (d + 2 * r + n) / 2 ≡ r + (m % 2 + n) / 2 = omega (arith, low) in
    let u : m / 2 + (m % 2 + n) / 2 ≡ (m + n) / 2 = omega arith in
    ap (λ (k : ℕ). of_bool (k == 1) ∷ bits_of w ((d + 2 * r + n) / 2)) h
    ∙ ap (λ (v : BitList). of_bool ((m + n) % 2 == 1) ∷ v) (ap (bits_of w) t ∙ add_low w (m / 2) ((m % 2 + n) / 2) ∙ ap (bits_of w) u)

one_less : (w n : ℕ) → take w (bits_of (suc w) n) ≡ bits_of w n
one_less zero n = refl
one_less (suc w) n = ap (λ (v : BitList). of_bool (n % 2 == 1) ∷ v) (one_less w (n / 2))

-- a place up doubles a number
doubled : (w n : ℕ) → move_up Zero 1 (bits_of w n) ≡ bits_of w (2 * n)
doubled zero n = refl
doubled (suc w) n =
    let z : 2 * n % 2 ≡ 0 = omega arith in
    let h : 2 * n / 2 ≡ n = omega arith in
    ap (λ (k : ℕ). Zero ∷ take k (bits_of (suc w) n)) (length-bits_of w (n / 2))
    ∙ ap (λ (v : BitList). Zero ∷ v) (one_less w n ∙ ap (bits_of w) (sym h))
    ∙ ap (λ (k : ℕ). of_bool (k == 1) ∷ bits_of w (2 * n / 2)) (sym z)

-- a known vector is the bits of its number
bits_are : (a : BitList) → all_known a ≡ true → bits_of (length a) (number a) ≡ a
bits_are [] h = refl
bits_are (Zero ∷ xs) h =
    let n = number xs in
    let z : (0 + 2 * n) % 2 ≡ 0 = omega arith in
    let t : (0 + 2 * n) / 2 ≡ n = omega arith in
    ap (λ (k : ℕ). of_bool (k == 1) ∷ bits_of (length xs) ((0 + 2 * n) / 2)) z ∙ ap (λ (v : BitList). Zero ∷ v) (ap (bits_of (length xs)) t ∙ bits_are xs h)
bits_are (One ∷ xs) h =
    let n = number xs in
    let z : (1 + 2 * n) % 2 ≡ 1 = omega arith in
    let t : (1 + 2 * n) / 2 ≡ n = omega arith in
    ap (λ (k : ℕ). of_bool (k == 1) ∷ bits_of (length xs) ((1 + 2 * n) / 2)) z ∙ ap (λ (v : BitList). One ∷ v) (ap (bits_of (length xs)) t ∙ bits_are xs h)
bits_are (X ∷ xs) h = cc
bits_are (Z ∷ xs) h = cc

zeros : (w : ℕ) → replicate w Zero ≡ bits_of w 0
zeros zero = refl
zeros (suc w) = ap (λ (v : BitList). Zero ∷ v) (zeros w)

number_zeros : (w : ℕ) → number (bits_of w 0) ≡ 0
number_zeros zero = refl
number_zeros (suc w) = omega (arith, number_zeros w)

power : (w : ℕ) → bits_of w (2 ^ w) ≡ bits_of w 0
power zero = refl
power (suc w) =
    let z : 2 ^ suc w % 2 ≡ 0 = omega (arith, pow-suc 2 w) in
    let t : 2 ^ suc w / 2 ≡ 2 ^ w = omega (arith, pow-suc 2 w) in
    ap (λ (k : ℕ). of_bool (k == 1) ∷ bits_of w (2 ^ suc w / 2)) z ∙ ap (λ (v : BitList). Zero ∷ v) (ap (bits_of w) t ∙ power w)

-- ---- operators, of known operands and of others

both : (p q : Bool) → p ≡ true → q ≡ true → (p && q) ≡ true
both true q h k = k
both false q h k = cc

not_left : (p q : Bool) → p ≡ false → (p && q) ≡ false
not_left true q h = cc
not_left false q h = refl

not_right : (p q : Bool) → q ≡ false → (p && q) ≡ false
not_right true q h = h
not_right false q h = refl

mul_known : (a c : BitList) → all_known a ≡ true → all_known c ≡ true → mul a c ≡ bits_of (length a) (number a * number c)
mul_known a c h k = ap (λ (b : Bool). if_known b (length a) (bits_of (length a) (number a * number c))) (both (all_known a) (all_known c) h k)

mul_left : (a c : BitList) → all_known a ≡ false → mul a c ≡ all_x (length a)
mul_left a c h = ap (λ (b : Bool). if_known b (length a) (bits_of (length a) (number a * number c))) (not_left (all_known a) (all_known c) h)

pub mul_right : (a c : BitList) → all_known c ≡ false → mul a c ≡ all_x (length a)
mul_right a c h = ap (λ (b : Bool). if_known b (length a) (bits_of (length a) (number a * number c))) (not_right (all_known a) (all_known c) h)

add_known : (a b : BitList) → all_known a ≡ true → all_known b ≡ true → add a b ≡ bits_of (length a) (number a + number b)
add_known a b h k = ap (λ (c : Bool). if_known c (length a) (bits_of (length a) (number a + number b))) (both (all_known a) (all_known b) h k)

add_right : (a b : BitList) → all_known b ≡ false → add a b ≡ all_x (length a)
add_right a b h = ap (λ (c : Bool). if_known c (length a) (bits_of (length a) (number a + number b))) (not_right (all_known a) (all_known b) h)

sub_left : (a b : BitList) → all_known a ≡ false → sub a b ≡ all_x (length a)
sub_left a b h = ap (λ (c : Bool). if_known c (length a) (bits_of (length a) ((number a + 2 ^ length a) - number b))) (not_left (all_known a) (all_known b) h)

-- `a - a`
sub_same : (a : BitList) → all_known a ≡ true → sub a a ≡ bits_of (length a) 0
sub_same a h =
    let e : (number a + 2 ^ length a) - number a ≡ 2 ^ length a = omega arith in
    ap (λ (c : Bool). if_known c (length a) (bits_of (length a) ((number a + 2 ^ length a) - number a))) (both (all_known a) (all_known a) h h)
    ∙ ap (bits_of (length a)) e
    ∙ power (length a)

unknown_x : (w : ℕ) → 1 ≤ w → all_known (all_x w) ≡ false
unknown_x zero h = absurd (omega arith)
unknown_x (suc w) h = refl

-- the bits of a number and a known vector
add_bits : (w m : ℕ) (b : BitList) → all_known b ≡ true → add (bits_of w m) b ≡ bits_of w (m + number b)
add_bits w m b h =
    add_known (bits_of w m) b (known-bits_of w m) h
    ∙ ap (λ (k : ℕ). bits_of k (number (bits_of w m) + number b)) (length-bits_of w m)
    ∙ add_low w m (number b)

-- ---- a product, digit by digit

pub length_moved : (v : BitList) → length (move_up Zero 1 v) ≡ length v
length_moved v = omega (arith, length-take (length v) (Zero ∷ v))

pub times_none : (a : BitList) → all_known a ≡ true → replicate (length a) Zero ≡ mul a []
times_none a h =
    let e : 0 ≡ number a * 0 = omega arith in
    zeros (length a) ∙ ap (bits_of (length a)) e ∙ sym (mul_known a [] h refl)

twice : (n k : ℕ) → 2 * (n * k) ≡ n * (0 + 2 * k)
twice n k = grind arith

twice_more : (n k : ℕ) → 2 * (n * k) + n ≡ n * (1 + 2 * k)
twice_more n k = grind arith

moved : (a c v : BitList) → all_known a ≡ true → all_known c ≡ true → v ≡ mul a c → move_up Zero 1 v ≡ bits_of (length a) (2 * (number a * number c))
moved a c v h k e = ap (move_up Zero 1) (e ∙ mul_known a c h k) ∙ doubled (length a) (number a * number c)

pub times_zero : (a c v : BitList) → all_known a ≡ true → all_known c ≡ true → v ≡ mul a c → move_up Zero 1 v ≡ mul a (Zero ∷ c)
times_zero a c v h k e = moved a c v h k e ∙ ap (bits_of (length a)) (twice (number a) (number c)) ∙ sym (mul_known a (Zero ∷ c) h k)

pub times_one : (a c v : BitList) → all_known a ≡ true → all_known c ≡ true → v ≡ mul a c → add (move_up Zero 1 v) a ≡ mul a (One ∷ c)
times_one a c v h k e =
    ap (λ (x : BitList). add x a) (moved a c v h k e)
    ∙ add_bits (length a) (2 * (number a * number c)) a h
    ∙ ap (bits_of (length a)) (twice_more (number a) (number c))
    ∙ sym (mul_known a (One ∷ c) h k)

pub times_first : (a c : BitList) → all_known a ≡ true → all_known c ≡ true → number c ≡ 0 → a ≡ mul a (One ∷ c)
times_first a c h k z =
    let e : number a ≡ number a * 1 = omega arith in
    let f : 1 ≡ 1 + 2 * number c = omega arith in
    sym (bits_are a h) ∙ ap (bits_of (length a)) (e ∙ ap (λ (n : ℕ). number a * n) f) ∙ sym (mul_known a (One ∷ c) h k)

-- ---- and of any vector

by_known : (a : BitList) (P : Type 0) → (all_known a ≡ true → P) → (all_known a ≡ false → P) → P
by_known a P f g = at (all_known a) refl
  where
    at : (b : Bool) → all_known a ≡ b → P
    at true h = f h
    at false h = g h

-- by an odd constant: the last sum is of the whole vector
pub odd_is : (a c v : BitList) → all_known c ≡ true → length v ≡ length a → (all_known a ≡ true → v ≡ mul a c) → add (move_up Zero 1 v) a ≡ mul a (One ∷ c)
odd_is a c v k long f = by_known a (add (move_up Zero 1 v) a ≡ mul a (One ∷ c))
    (λ h. times_one a c v h k (f h))
    (λ h. add_right (move_up Zero 1 v) a h ∙ ap (λ (n : ℕ). all_x n) (length_moved v ∙ long) ∙ sym (mul_left a (One ∷ c) h))

-- by 0
pub zero_is : (a c : BitList) → all_known c ≡ true → number c ≡ 0 → sub a a ≡ mul a c
zero_is a c k z = by_known a (sub a a ≡ mul a c)
    (λ h.
    let e : 0 ≡ number a * 0 = omega arith in
    sub_same a h ∙ ap (bits_of (length a)) (e ∙ ap (λ (n : ℕ). number a * n) (sym z)) ∙ sym (mul_known a c h k))
    (λ h. sub_left a a h ∙ sym (mul_left a c h))

-- by any
pub any_is : (a c v : BitList) → 1 ≤ length a → all_known c ≡ true → length v ≡ length a → (all_known a ≡ true → v ≡ mul a c) → add v (sub a a) ≡ mul a c
any_is a c v some k long f = by_known a (add v (sub a a) ≡ mul a c)
    (λ h.
    let m = number a * number c in
    let e : m + 0 ≡ m = omega arith in
    ap (λ (x : BitList). add x (sub a a)) (f h ∙ mul_known a c h k)
    ∙ ap (λ (x : BitList). add (bits_of (length a) m) x) (sub_same a h)
    ∙ add_bits (length a) m (bits_of (length a) 0) (known-bits_of (length a) 0)
    ∙ ap (λ (n : ℕ). bits_of (length a) (m + n)) (number_zeros (length a))
    ∙ ap (bits_of (length a)) e
    ∙ sym (mul_known a c h k))
    (λ h.
    ap (add v) (sub_left a a h)
    ∙ add_right v (all_x (length a)) (unknown_x (length a) some)
    ∙ ap (λ (n : ℕ). all_x n) long
    ∙ sym (mul_left a c h))

-- the operands of a product change places
pub mul_swap : (a c : BitList) → length a ≡ length c → mul a c ≡ mul c a
mul_swap a c e =
    ap (λ (b : Bool). if_known b (length a) (bits_of (length a) (number a * number c))) (swap (all_known a) (all_known c))
    ∙ ap (λ (w : ℕ). if_known (all_known c && all_known a) w (bits_of w (number a * number c))) e
    ∙ ap (λ (n : ℕ). if_known (all_known c && all_known a) (length c) (bits_of (length c) n)) (let f : number a * number c ≡ number c * number a = grind arith in f)
  where
    swap : (p q : Bool) → (p && q) ≡ (q && p)
    swap true true = refl
    swap true false = refl
    swap false true = refl
    swap false false = refl
