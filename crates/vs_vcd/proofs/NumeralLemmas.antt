-- Digits one by one, and how many there are.
use Rattle.std.proofs.Common.{◌≡◌, ℕ, zero, suc, ◌+◌, ◌*◌, ◌/◌, ◌%◌, ◌^◌, ◌<◌, ◌≤◌, Bool, true, false, List, [], ◌∷◌, ◌++◌, length, refl, sym, ap, ◌∙◌, subst, append_assoc, length-append, arith}
use Rattle.std.specs.Prelude.{map, reverse, nat_lt}
use Rattle.std.specs.Fmt as fmt
use Rattle.std.proofs.Math.Nat.{div-lt_self, div-lt_iff_lt-mul, pow-suc, pow-zero, one-mul}
use Rattle.std.proofs.lemmas.Bool.{ltb-true, ltb-false, lt-ltb, le-ltb}
use Rattle.std.proofs.lemmas.Fmt.{decimal_by_steps}
use Rattle.std.proofs.lemmas.List.{map-append, reverse-append, length-map}
use Rattle.vs_vcd.specs.Numerals.{digits_up_to, digits, decimal, identifier}

-- by the test that a definition makes
by_test : (P : Type 0) (a b : ℕ) → (a < b → P) → (b ≤ a → P) → P
by_test P a b low high = at (nat_lt a b) refl where
  at : (t : Bool) → nat_lt a b ≡ t → P
  at true e = low (ltb-true a b e)
  at false e = high (ltb-false a b e)

last_digit : (most base n : ℕ) → n < base → digits_up_to (suc most) base n ≡ n ∷ []
unfolding digits_up_to
last_digit most base n h = rw (lt-ltb n base h, digits_up_to) refl

more_digits : (most base n : ℕ) → base ≤ n → digits_up_to (suc most) base n ≡ (n % base) ∷ digits_up_to most base (n / base)
unfolding digits_up_to
more_digits most base n h = rw (le-ltb n base h, digits_up_to) refl

-- any bound above the number gives all digits
enough : (f g base n : ℕ) → 2 ≤ base → n < f → n < g → digits_up_to f base n ≡ digits_up_to g base n
enough zero g base n two p q = absurd (omega arith)
enough (suc f) zero base n two p q = absurd (omega arith)
enough (suc f) (suc g) base n two p q =
    by_test (digits_up_to (suc f) base n ≡ digits_up_to (suc g) base n) n base
    (λ low. last_digit f base n low ∙ sym (last_digit g base n low))
    (λ high. let some : 0 < n = omega arith in
    let smaller : n / base < n = div-lt_self some two in
    let below_f : n / base < f = omega arith in
    let below_g : n / base < g = omega arith in
    more_digits f base n high ∙ ap (λ (ds : List ℕ). (n % base) ∷ ds) (enough f g base (n / base) two below_f below_g) ∙ sym (more_digits g base n high))

digits-more : (base n : ℕ) → 2 ≤ base → base ≤ n → digits base n ≡ (n % base) ∷ digits base (n / base)
unfolding digits
digits-more base n two high =
    let some : 0 < n = omega arith in
    let smaller : n / base < n = div-lt_self some two in
    let here : n / base < suc (n / base) = omega arith in
    more_digits n base n high ∙ ap (λ (ds : List ℕ). (n % base) ∷ ds) (enough n (suc (n / base)) base (n / base) two smaller here)

digits-last : (base n : ℕ) → n < base → digits base n ≡ n ∷ []
unfolding digits
digits-last base n low = last_digit n base n low

pub identifier-last : (n : ℕ) → n < 94 → identifier n ≡ (33 + n) ∷ []
unfolding identifier
identifier-last n low = ap (map (λ (d : ℕ). 33 + d)) (digits-last 94 n low)

pub identifier-more : (n : ℕ) → 94 ≤ n → identifier n ≡ (33 + n % 94) ∷ identifier (n / 94)
unfolding identifier
identifier-more n high = ap (map (λ (d : ℕ). 33 + d)) (digits-more 94 n (omega arith) high)

decimal-last : (n : ℕ) → n < 10 → decimal n ≡ (48 + n) ∷ []
unfolding decimal
decimal-last n low = ap (λ (ds : List ℕ). map (λ (d : ℕ). 48 + d) (reverse ds)) (digits-last 10 n low)

decimal-more : (n : ℕ) → 10 ≤ n → decimal n ≡ decimal (n / 10) ++ (48 + n % 10) ∷ []
unfolding decimal
decimal-more n high =
    let digit : ℕ → ℕ = λ (d : ℕ). 48 + d in
    ap (λ (ds : List ℕ). map digit (reverse ds)) (digits-more 10 n (omega arith) high)
    ∙ ap (map digit) (reverse-append ((n % 10) ∷ []) (digits 10 (n / 10)))
    ∙ map-append digit (reverse (digits 10 (n / 10))) ((n % 10) ∷ [])

-- it is what `{}` writes
pub decimal_is : (n : ℕ) → n < 2 ^ 64 → decimal n ≡ fmt.decimal n
decimal_is = decimal_by_steps (λ n ds. decimal n ≡ ds) decimal-last (λ n ds high e. decimal-more n high ∙ ap (λ (t : List ℕ). t ++ (48 + n % 10) ∷ []) e)

-- a number below base ^ k has at most k digits
length-digits_up_to : (k most base n : ℕ) → 0 < base → n < base ^ suc k → length (digits_up_to most base n) ≤ suc k
unfolding digits_up_to
length-digits_up_to k zero base n some h = omega arith
length-digits_up_to zero (suc most) base n some h =
    let low : n < base = subst (λ (m : ℕ). n < m) (pow-suc base 0 ∙ ap (λ (m : ℕ). m * base) (pow-zero base) ∙ one-mul base) h in
    subst (λ (ds : List ℕ). length ds ≤ 1) (sym (last_digit most base n low)) (omega arith)
length-digits_up_to (suc k) (suc most) base n some h =
    by_test (length (digits_up_to (suc most) base n) ≤ suc (suc k)) n base
    (λ low. subst (λ (ds : List ℕ). length ds ≤ suc (suc k)) (sym (last_digit most base n low)) (omega arith))
    (λ high.
    let below : n / base < base ^ suc k = (div-lt_iff_lt-mul some).1 (subst (λ (m : ℕ). n < m) (pow-suc base (suc k)) h) in
    let rest : length (digits_up_to most base (n / base)) ≤ suc k = length-digits_up_to k most base (n / base) some below in
    subst (λ (ds : List ℕ). length ds ≤ suc (suc k)) (sym (more_digits most base n high)) (omega arith))

pub length-identifier : (n : ℕ) → n < 2 ^ 32 → length (identifier n) ≤ 5
unfolding identifier digits
length-identifier n h =
    let below : n < 94 ^ 5 = omega arith in
    let short : length (digits_up_to (suc n) 94 n) ≤ 5 = length-digits_up_to 4 (suc n) 94 n (omega arith) below in
    subst (λ (m : ℕ). m ≤ 5) (sym (length-map (digits_up_to (suc n) 94 n) (λ (d : ℕ). 33 + d))) short

identifier-some : (n : ℕ) → 1 ≤ length (identifier n)
identifier-some n =
    by_test (1 ≤ length (identifier n)) n 94
    (λ low. subst (λ (ds : List ℕ). 1 ≤ length ds) (sym (identifier-last n low)) (omega arith))
    (λ high. subst (λ (ds : List ℕ). 1 ≤ length ds) (sym (identifier-more n high)) (omega arith))

-- where a is what was written of the code, and r what is left of the number
pub identifier-room : (a b : List ℕ) (r n : ℕ) → a ++ identifier r ≡ b ++ identifier n → n < 2 ^ 32 → length a + 1 ≤ length b + 5
identifier-room a b r n e h =
    omega (arith, identifier-some r, length-identifier n h, length-append a (identifier r), length-append b (identifier n), ap length e)

pub pushed_more : (a b : List ℕ) (r : ℕ) → 94 ≤ r → b ≡ a ++ (33 + r % 94) ∷ [] → b ++ identifier (r / 94) ≡ a ++ identifier r
pushed_more a b r high e =
    ap (λ (t : List ℕ). t ++ identifier (r / 94)) e ∙ append_assoc a ((33 + r % 94) ∷ []) (identifier (r / 94)) ∙ ap (λ (t : List ℕ). a ++ t) (sym (identifier-more r high))

pub pushed_last : (a b : List ℕ) (r : ℕ) → r < 94 → b ≡ a ++ (33 + r) ∷ [] → b ≡ a ++ identifier r
pushed_last a b r low e = e ∙ ap (λ (t : List ℕ). a ++ t) (sym (identifier-last r low))
