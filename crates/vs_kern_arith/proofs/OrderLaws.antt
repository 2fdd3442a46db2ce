-- Order of numbers, digit by digit, and in two's complement.
use Rattle.std.proofs.Common.{◌≡◌, ◌⊎◌, ℕ, zero, suc, ◌+◌, ◌*◌, ◌^◌, ◌<◌, ◌≤◌, Bool, true, false, ◌&&◌, if◌then◌else◌, nat_lt, [], ◌∷◌, length, get_or, drop, ℤ, pos, ◌-ℤ◌, ◌<ℤ◌, ◌≤ℤ◌, int_lt, inl, inr, refl, sym, ap, ap₂, ◌∙◌, subst, arith}
use Rattle.std.proofs.lemmas.Bool.{cases_lt, lt-ltb, le-ltb, and_parts}
use Rattle.std.proofs.lemmas.Int.{ints}
use Rattle.std.proofs.Math.Nat.{pow-suc}
use Rattle.vs_four.specs.declared.Bit4.{Bit4}
use Rattle.vs_four.specs.declared.Bit4.TheVariants.{Zero, One, X, Z}
use Rattle.vs_four.specs.Tables.{is_known, is_one, of_bool}
use Rattle.vs_four.specs.Logic.{BitList, all_known}
use Rattle.vs_four.specs.Lengths.{last_or}
use Rattle.vs_four.specs.Numbers.{digit, number, integer, less}
use Rattle.vs_plane.specs.Bits.{differ}
use Rattle.vs_plane.specs.Lanes.{value_bit}
use Rattle.vs_kern_arith.specs.Digits.{bit, less_of}
use Rattle.vs_kern_arith.proofs.SumLaws.{digits_of, some_unknown}

same_order : (a b c d : ℕ) → (a < b → c < d) → (b ≤ a → d ≤ c) → nat_lt a b ≡ nat_lt c d
same_order a b c d f g = elim (cases_lt a b) [ inl h ↦ lt-ltb a b h ∙ sym (lt-ltb c d (f h)) | inr h ↦ le-ltb a b h ∙ sym (le-ltb c d (g h)) ]

half_order : (x y c : Bool) (p q : ℕ) → nat_lt (bit x + 2 * p) (bit y + 2 * q + bit c) ≡ nat_lt p (q + bit (less_of x y c))
half_order true true true p q = same_order _ _ _ _ (λ h. omega (arith, h)) (λ h. omega (arith, h))
half_order true true false p q = same_order _ _ _ _ (λ h. omega (arith, h)) (λ h. omega (arith, h))
half_order true false true p q = same_order _ _ _ _ (λ h. omega (arith, h)) (λ h. omega (arith, h))
half_order true false false p q = same_order _ _ _ _ (λ h. omega (arith, h)) (λ h. omega (arith, h))
half_order false true true p q = same_order _ _ _ _ (λ h. omega (arith, h)) (λ h. omega (arith, h))
half_order false true false p q = same_order _ _ _ _ (λ h. omega (arith, h)) (λ h. omega (arith, h))
half_order false false true p q = same_order _ _ _ _ (λ h. omega (arith, h)) (λ h. omega (arith, h))
half_order false false false p q = same_order _ _ _ _ (λ h. omega (arith, h)) (λ h. omega (arith, h))

-- the order of two numbers is that of what is left of them after k places, where c says whether the first is less in these
abbrev pub IsOrder : BitList → BitList → ℕ → Bool → Type 0
IsOrder a b k c = nat_lt (number a) (number b) ≡ nat_lt (number (drop k a)) (number (drop k b) + bit c)

pub order_begins : (a b : BitList) (c : Bool) → c ≡ false → IsOrder a b 0 c
order_begins a b c h = same_order _ _ _ _ (λ l. omega (arith, l)) (λ l. omega (arith, l, ap bit h))

pub order_next : (a b : BitList) (k : ℕ) (c : Bool) → all_known a ≡ true → all_known b ≡ true → IsOrder a b k c
    → IsOrder a b (k + 1) (less_of (value_bit (get_or a k Zero)) (value_bit (get_or b k Zero)) c)
order_next a b k c known_a known_b order =
    order
    ∙ ap₂ (λ (m n : ℕ). nat_lt m (n + bit c)) (digits_of a k known_a) (digits_of b k known_b)
    ∙ half_order (value_bit (get_or a k Zero)) (value_bit (get_or b k Zero)) c (number (drop (k + 1) a)) (number (drop (k + 1) b))

drop-past : (a : BitList) (k : ℕ) → length a ≤ k → drop k a ≡ []
drop-past [] zero h = refl
drop-past [] (suc k) h = refl
drop-past (x ∷ xs) zero h = absurd (let e : ⊥ = omega arith in e)
drop-past (x ∷ xs) (suc k) h = drop-past xs k (omega arith)

of_bit : (c : Bool) → nat_lt 0 (0 + bit c) ≡ c
of_bit true = refl
of_bit false = refl

pub order_ends : (a b : BitList) (k : ℕ) (c : Bool) → length a ≤ k → length b ≤ k → IsOrder a b k c → c ≡ nat_lt (number a) (number b)
order_ends a b k c in_a in_b order =
    sym (order ∙ ap₂ (λ (x y : BitList). nat_lt (number x) (number y + bit c)) (drop-past a k in_a) (drop-past b k in_b) ∙ of_bit c)

-- ---- the most significant bit

pub last_at : (d e x : Bit4) (xs : BitList) → get_or (x ∷ xs) (length xs) e ≡ last_or d (x ∷ xs)
last_at d e x [] = refl
last_at d e x (y ∷ ys) = last_at x e y ys

pub last_is : (a : BitList) (k : ℕ) → length a ≡ k + 1 → get_or a k Zero ≡ last_or Zero a
last_is [] k h = absurd (let e : ⊥ = omega (arith, h) in e)
last_is (x ∷ xs) k h =
    let e : k ≡ length xs = omega (arith, h) in
    ap (λ (n : ℕ). get_or (x ∷ xs) n Zero) e ∙ last_at Zero Zero x xs

last_known : (d : Bit4) (a : BitList) → is_known d ≡ true → all_known a ≡ true → is_one (last_or d a) ≡ value_bit (last_or d a)
last_known Zero [] h known = refl
last_known One [] h known = refl
last_known X [] h known = cc
last_known Z [] h known = cc
last_known d (x ∷ xs) h known = last_known x xs (and_parts (is_known x) (all_known xs) known).0 (and_parts (is_known x) (all_known xs) known).1

number-below : (a : BitList) → number a < 2 ^ length a
number-below [] = omega arith
number-below (Zero ∷ xs) = omega (arith, number-below xs, pow-suc 2 (length xs))
number-below (One ∷ xs) = omega (arith, number-below xs, pow-suc 2 (length xs))
number-below (X ∷ xs) = omega (arith, number-below xs, pow-suc 2 (length xs))
number-below (Z ∷ xs) = omega (arith, number-below xs, pow-suc 2 (length xs))

digit-below : (b : Bit4) → digit b < 2
digit-below Zero = omega arith
digit-below One = omega arith
digit-below X = omega arith
digit-below Z = omega arith

-- whether the number is in the upper half is the top bit
top_half : (n : ℕ) (d : Bit4) (a : BitList) → all_known a ≡ true → length a ≡ suc n → ((is_one (last_or d a) ≡ true) × (2 ^ n ≤ number a)) ⊎ ((is_one (last_or d a) ≡ false) × (number a < 2 ^ n))
top_half n d [] known h = absurd (omega (arith, h))
top_half zero d (Zero ∷ []) known h = inr (refl, omega arith)
top_half zero d (One ∷ []) known h = inl (refl, omega arith)
top_half zero d (X ∷ []) known h = cc
top_half zero d (Z ∷ []) known h = cc
top_half (suc n) d (x ∷ []) known h = absurd (omega (arith, h))
top_half zero d (x ∷ y ∷ ys) known h = absurd (omega (arith, h))
top_half (suc n) d (x ∷ y ∷ ys) known h =
    let digit_below : digit x < 2 = digit-below x in
    elim (top_half n x (y ∷ ys) (and_parts (is_known x) (all_known (y ∷ ys)) known).1 (omega (arith, h)))
    [ inl p ↦ inl (p.0, omega (arith, p.1, pow-suc 2 n)) | inr p ↦ inr (p.0, omega (arith, p.1, digit_below, pow-suc 2 n)) ]

below_is : (x y : ℤ) → x <ℤ y → int_lt x y ≡ true
below_is x y h = grind (arith, ints)

not_below_is : (x y : ℤ) → y ≤ℤ x → int_lt x y ≡ false
not_below_is x y h = grind (arith, ints)

differ-false : (b : Bool) → b ≡ differ b false
differ-false true = refl
differ-false false = refl

-- in two's complement the order is that of the numbers, or the other one where the signs differ
complement_order : (W H A B : ℕ) (s t : Bool) → A < W → B < W
    → ((s ≡ true) × (H ≤ A)) ⊎ ((s ≡ false) × (A < H)) → ((t ≡ true) × (H ≤ B)) ⊎ ((t ≡ false) × (B < H))
    → int_lt (if s then pos A -ℤ pos W else pos A) (if t then pos B -ℤ pos W else pos B) ≡ differ (nat_lt A B) (differ s t)
complement_order W H A B true true h l p q =
    elim (cases_lt A B) [
      | inl k ↦ below_is (pos A -ℤ pos W) (pos B -ℤ pos W) (omega (arith, ints, k)) ∙ sym (ap (λ (b : Bool). differ b false) (lt-ltb A B k))
      | inr k ↦ not_below_is (pos A -ℤ pos W) (pos B -ℤ pos W) (omega (arith, ints, k)) ∙ sym (ap (λ (b : Bool). differ b false) (le-ltb A B k))
    ]
complement_order W H A B false false h l p q = differ-false (nat_lt A B)
complement_order W H A B true false h l (inl p) (inr q) =
    below_is (pos A -ℤ pos W) (pos B) (omega (arith, ints, h)) ∙ sym (ap (λ (b : Bool). differ b true) (le-ltb A B (omega (arith, p.1, q.1))))
complement_order W H A B true false h l (inr p) q = cc
complement_order W H A B true false h l p (inl q) = cc
complement_order W H A B false true h l (inr p) (inl q) =
    not_below_is (pos A) (pos B -ℤ pos W) (omega (arith, ints, l)) ∙ sym (ap (λ (b : Bool). differ b true) (lt-ltb A B (omega (arith, p.1, q.1))))
complement_order W H A B false true h l (inl p) q = cc
complement_order W H A B false true h l p (inr q) = cc

-- the order by the numbers and the signs
abbrev pub order_of : Bool → BitList → BitList → Bool
order_of true a b = differ (nat_lt (number a) (number b)) (differ (value_bit (last_or Zero a)) (value_bit (last_or Zero b)))
order_of false a b = nat_lt (number a) (number b)

signed_order : (n : ℕ) (a b : BitList) → length a ≡ n → length b ≡ n → all_known a ≡ true → all_known b ≡ true
    → int_lt (integer true a) (integer true b) ≡ differ (nat_lt (number a) (number b)) (differ (is_one (last_or Zero a)) (is_one (last_or Zero b)))
signed_order zero [] [] p q h l = refl
signed_order zero (x ∷ xs) b p q h l = absurd (let e : ⊥ = omega (arith, p) in e)
signed_order zero [] (y ∷ ys) p q h l = absurd (let e : ⊥ = omega (arith, q) in e)
signed_order (suc n) a b p q h l =
    let same : length b ≡ length a = q ∙ sym p in
    let small : number b < 2 ^ length a = subst (λ (m : ℕ). number b < 2 ^ m) same (number-below b) in
    let s = is_one (last_or Zero a) in
    let t = is_one (last_or Zero b) in
    ap (λ (m : ℕ). int_lt (if s then pos (number a) -ℤ pos (2 ^ length a) else pos (number a)) (if t then pos (number b) -ℤ pos (2 ^ m) else pos (number b))) same
    ∙ complement_order (2 ^ length a) (2 ^ n) (number a) (number b) s t (number-below a) small (top_half n Zero a h p) (top_half n Zero b l q)

known_order : (signed : Bool) (a b : BitList) → length b ≡ length a → all_known a ≡ true → all_known b ≡ true
    → int_lt (integer signed a) (integer signed b) ≡ order_of signed a b
known_order true a b same h l =
    signed_order (length a) a b refl same h l
    ∙ ap₂ (λ (s t : Bool). differ (nat_lt (number a) (number b)) (differ s t)) (last_known Zero a refl h) (last_known Zero b refl l)
known_order false a b same h l = refl

order_at : (p q r s : Bool) → (p ≡ true → q ≡ true → r ≡ s) → (if some_unknown p q then X else of_bool r) ≡ (if p && q then of_bool s else X)
order_at true true r s is = ap of_bool (is refl refl)
order_at true false r s is = refl
order_at false q r s is = refl

-- the bit of a comparison
pub less_is : (signed : Bool) (a b : BitList) (r : Bool) → length b ≡ length a → (all_known a ≡ true → all_known b ≡ true → r ≡ order_of signed a b)
    → (if some_unknown (all_known a) (all_known b) then X else of_bool r) ≡ less signed a b
less_is signed a b r same is =
    order_at (all_known a) (all_known b) r (int_lt (integer signed a) (integer signed b)) (λ h l. is h l ∙ sym (known_order signed a b same h l))
