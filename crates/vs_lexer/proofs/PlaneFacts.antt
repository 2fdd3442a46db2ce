-- Bits in two planes.
use Rattle.std.proofs.Common.{◌≡◌, ℕ, zero, suc, ◌+◌, ◌*◌, ◌/◌, ◌%◌, ◌^◌, ◌<◌, ◌≤◌, Bool, true, false, cond, List, [], ◌∷◌, ◌++◌, refl, sym, ◌∙◌, ap, get_or, length, take, drop, replicate, arith, append_assoc, inl, inr}
use Rattle.std.proofs.lemmas.List.{take-take, append-nil, take_at, take-replicate, take_more}
use Rattle.std.specs.Prelude.{◌==◌, ◌&&◌, ◌||◌, not, nat_lt, nat_le, Option, Some, None}
use Rattle.std.proofs.lemmas.Bool.{and_parts, or_cases, eqb-true, leb-true, ltb-true, both_ways, not-true}
use Rattle.std.proofs.Math.Nat.{pow-suc, zero-mod}
use Rattle.std.proofs.Math.Arith.{mod-mul}
use Rattle.std.proofs.Math.Pow.{pow_pos}
use Rattle.vs_four.specs.declared.Bit4.{Bit4}
use Rattle.vs_four.specs.declared.Bit4.TheVariants.{Zero, One}
use Rattle.vs_four.specs.Planes.{decode, bits_of_planes}
use Rattle.vs_four.specs.PlanesBack.{by_bit}
use Rattle.vs_lexer.specs.declared.bytes.Base.{Base}
use Rattle.vs_lexer.specs.declared.number.LiteralHead.{LiteralHead}
use Rattle.vs_lexer.specs.Literals.{number_bits, digit_bits, all_digit_bits, fitted, fill_bit, digits_bits, decimal_value, is_good_size, is_decimal_number, is_in_range, is_plain_in_range, head_of, plain_size, plain_value, literal_size, literal_bits, is_signed_literal, has_size}
use Rattle.vs_lexer.specs.Strings.{is_quoted, is_short_string, string_size, string_value}

-- ---- lists

pub take_append : (n m : ℕ) (xs ys : List Bit4) → n ≤ m → take n (xs ++ take m ys) ≡ take n (xs ++ ys)
take_append zero m xs ys h = refl
take_append (suc n) m [] ys h = take-take (suc n) m ys h
take_append (suc n) m (x ∷ xs) ys h = ap (λ r. x ∷ r) (take_append n m xs ys (omega arith))

-- ---- numbers

pub bits_number : (n v : ℕ) → bits_of_planes n v 0 ≡ number_bits n v
unfolding bits_of_planes number_bits
bits_number zero v = refl
bits_number (suc n) v = by_bit (λ p. decode p 0 ∷ bits_of_planes n (v / 2) 0 ≡ cond (p == 1) One Zero ∷ number_bits n (v / 2)) (ap (λ r. Zero ∷ r) (bits_number n (v / 2))) (ap (λ r. One ∷ r) (bits_number n (v / 2))) v

low_digit : (n v : ℕ) → v % 2 ^ suc n ≡ (v / 2 % 2 ^ n) * 2 + v % 2
low_digit n v = ap (λ p. v % p) (pow-suc 2 n) ∙ mod-mul v (pow_pos n) (omega arith)

low_half : (n v : ℕ) → v % 2 ^ suc n / 2 ≡ v / 2 % 2 ^ n
low_half n v = let e = low_digit n v in omega arith

low_bit : (n v : ℕ) → v % 2 ^ suc n % 2 ≡ v % 2
low_bit n v = let e = low_digit n v in omega arith

-- the low bits are those of the remainders
pub bits-mod : (n v u : ℕ) → bits_of_planes n (v % 2 ^ n) (u % 2 ^ n) ≡ bits_of_planes n v u
unfolding bits_of_planes
bits-mod zero v u = refl
bits-mod (suc n) v u =
    ap (λ a. decode a (u % 2 ^ suc n % 2) ∷ bits_of_planes n (v % 2 ^ suc n / 2) (u % 2 ^ suc n / 2)) (low_bit n v)
    ∙ ap (λ b. decode (v % 2) b ∷ bits_of_planes n (v % 2 ^ suc n / 2) (u % 2 ^ suc n / 2)) (low_bit n u)
    ∙ ap (λ a. decode (v % 2) (u % 2) ∷ bits_of_planes n a (u % 2 ^ suc n / 2)) (low_half n v)
    ∙ ap (λ b. decode (v % 2) (u % 2) ∷ bits_of_planes n (v / 2 % 2 ^ n) b) (low_half n u)
    ∙ ap (λ r. decode (v % 2) (u % 2) ∷ r) (bits-mod n (v / 2) (u / 2))

-- a number cut to n bits
pub number_cut : (n v step : ℕ) → step ≡ 2 ^ n → bits_of_planes n (v % step) 0 ≡ number_bits n v
number_cut n v step is =
    let none : 0 ≡ 0 % 2 ^ n = sym (zero-mod (2 ^ n)) in
    ap (λ s. bits_of_planes n (v % s) 0) is ∙ ap (bits_of_planes n (v % 2 ^ n)) none ∙ bits-mod n v 0 ∙ bits_number n v

-- fewer bits of the same planes
pub bits-take : (n m v u : ℕ) → n ≤ m → take n (bits_of_planes m v u) ≡ bits_of_planes n v u
unfolding bits_of_planes
bits-take zero m v u h = refl
bits-take (suc n) zero v u h = absurd (omega arith)
bits-take (suc n) (suc m) v u h = ap (λ r. decode (v % 2) (u % 2) ∷ r) (bits-take n m (v / 2) (u / 2) (omega arith))

-- planes with the k bits of a digit on the right
digit_bit : (k v d : ℕ) → (v * 2 ^ suc k + d) % 2 ≡ d % 2
digit_bit k v d = let e = pow-suc 2 k in let f : v * 2 ^ suc k ≡ v * 2 ^ k * 2 = ap (λ p. v * p) e ∙ omega arith in omega arith

digit_rest : (k v d : ℕ) → (v * 2 ^ suc k + d) / 2 ≡ v * 2 ^ k + d / 2
digit_rest k v d = let e = pow-suc 2 k in let f : v * 2 ^ suc k ≡ v * 2 ^ k * 2 = ap (λ p. v * p) e ∙ omega arith in omega arith

half_small : (k d : ℕ) → d < 2 ^ suc k → d / 2 < 2 ^ k
half_small k d h = let e = pow-suc 2 k in omega arith

pub bits-append : (k n v u d e : ℕ) → d < 2 ^ k → e < 2 ^ k → bits_of_planes (k + n) (v * 2 ^ k + d) (u * 2 ^ k + e) ≡ bits_of_planes k d e ++ bits_of_planes n v u
unfolding bits_of_planes
bits-append zero n v u d e h g =
    let a : v * 2 ^ 0 + d ≡ v = omega arith in
    let b : u * 2 ^ 0 + e ≡ u = omega arith in
    let c : 0 + n ≡ n = omega arith in
    ap (λ m. bits_of_planes m (v * 2 ^ 0 + d) (u * 2 ^ 0 + e)) c ∙ ap (λ x. bits_of_planes n x (u * 2 ^ 0 + e)) a ∙ ap (λ y. bits_of_planes n v y) b
bits-append (suc k) n v u d e h g =
    let c : suc k + n ≡ suc (k + n) = omega arith in
    ap (λ m. bits_of_planes m (v * 2 ^ suc k + d) (u * 2 ^ suc k + e)) c
    ∙ ap (λ a. decode a ((u * 2 ^ suc k + e) % 2) ∷ bits_of_planes (k + n) ((v * 2 ^ suc k + d) / 2) ((u * 2 ^ suc k + e) / 2)) (digit_bit k v d)
    ∙ ap (λ b. decode (d % 2) b ∷ bits_of_planes (k + n) ((v * 2 ^ suc k + d) / 2) ((u * 2 ^ suc k + e) / 2)) (digit_bit k u e)
    ∙ ap (λ a. decode (d % 2) (e % 2) ∷ bits_of_planes (k + n) a ((u * 2 ^ suc k + e) / 2)) (digit_rest k v d)
    ∙ ap (λ b. decode (d % 2) (e % 2) ∷ bits_of_planes (k + n) (v * 2 ^ k + d / 2) b) (digit_rest k u e)
    ∙ ap (λ r. decode (d % 2) (e % 2) ∷ r) (bits-append k n v u (d / 2) (e / 2) (half_small k d h) (half_small k e g))

-- the same, cut to n bits
pub bits-shift : (k n v u d e : ℕ) → d < 2 ^ k → e < 2 ^ k → bits_of_planes n ((v * 2 ^ k + d) % 2 ^ n) ((u * 2 ^ k + e) % 2 ^ n) ≡ take n (bits_of_planes k d e ++ bits_of_planes n v u)
bits-shift k n v u d e h g = bits-mod n (v * 2 ^ k + d) (u * 2 ^ k + e) ∙ sym (bits-take n (k + n) (v * 2 ^ k + d) (u * 2 ^ k + e) (omega arith)) ∙ ap (take n) (bits-append k n v u d e h g)

-- ---- digits

pub all_digit_bits-push : (base : Base) (xs : List ℕ) (b : ℕ) → all_digit_bits base (xs ++ b ∷ []) ≡ digit_bits base b ++ all_digit_bits base xs
all_digit_bits-push base [] b = sym (append-nil (digit_bits base b))
all_digit_bits-push base (x ∷ xs) b = ap (λ r. r ++ digit_bits base x) (all_digit_bits-push base xs b) ∙ append_assoc (digit_bits base b) (all_digit_bits base xs) (digit_bits base x)

-- the first i digits, filled to n bits
abbrev pub filled : ℕ → Base → List ℕ → Bit4 → List Bit4
filled n base digits fill = take n (all_digit_bits base digits ++ replicate n fill)

pub filled_none : (n : ℕ) (fill : Bit4) → take n (replicate n fill) ≡ replicate n fill
filled_none n fill = take-replicate n n fill (omega arith)

pub filled_more : (n : ℕ) (base : Base) (digits : List ℕ) (i : ℕ) (fill : Bit4) → i < length digits
    → take n (digit_bits base (get_or digits i 0) ++ take n (all_digit_bits base (take i digits) ++ replicate n fill)) ≡ take n (all_digit_bits base (take (i + 1) digits) ++ replicate n fill)
filled_more n base digits i fill h =
    let b = get_or digits i 0 in
    let xs = all_digit_bits base (take i digits) in
    take_append n n (digit_bits base b) (xs ++ replicate n fill) (omega arith)
    ∙ ap (take n) (sym (append_assoc (digit_bits base b) xs (replicate n fill)))
    ∙ ap (λ r. take n (r ++ replicate n fill)) (sym (ap (all_digit_bits base) (take_more digits i 0 h) ∙ all_digit_bits-push base (take i digits) b))

length-number_bits : (n v : ℕ) → length (number_bits n v) ≡ n
unfolding number_bits
length-number_bits zero v = refl
length-number_bits (suc n) v = ap suc (length-number_bits n (v / 2))

pub number_filled : (n v : ℕ) (rest : List Bit4) → take n (number_bits n v ++ rest) ≡ number_bits n v
number_filled n v rest = take_at (number_bits n v) rest n (length-number_bits n v)

-- the low bits of filled bits are those of a number that is cut or filled
pub fitted_bits : (size v u : ℕ) (bits : List Bit4) (fill : Bit4) → size ≤ 64 → bits_of_planes 64 v u ≡ take 64 (bits ++ replicate 64 fill) → bits_of_planes size (v % 2 ^ size) (u % 2 ^ size) ≡ fitted size fill bits
fitted_bits size v u bits fill h e =
    bits-mod size v u ∙ sym (bits-take size 64 v u h) ∙ ap (take size) e ∙ take-take size 64 (bits ++ replicate 64 fill) h
    ∙ sym (take_append size size bits (replicate 64 fill) (omega arith)) ∙ ap (λ r. take size (bits ++ r)) (take-replicate size 64 fill h)

-- ---- what `is_in_range` says of a number with a base

abbrev in_range_by : List ℕ → Option LiteralHead → Bool
in_range_by text o = elim o [
  | None ↦ is_plain_in_range text
  | Some h ↦ (h.size == 0 || is_good_size (decimal_value (take h.size text))) && (not (is_decimal_number h.base (drop h.digits text)) || nat_lt (decimal_value (drop h.digits text)) (2 ^ 64))
]

range_parts : (text : List ℕ) (h : LiteralHead) → head_of text ≡ Some h → is_in_range text ≡ true
    → ((h.size == 0 || is_good_size (decimal_value (take h.size text))) ≡ true) × ((not (is_decimal_number h.base (drop h.digits text)) || nat_lt (decimal_value (drop h.digits text)) (2 ^ 64)) ≡ true)
unfolding is_in_range
range_parts text h e r = and_parts (h.size == 0 || is_good_size (decimal_value (take h.size text))) (not (is_decimal_number h.base (drop h.digits text)) || nat_lt (decimal_value (drop h.digits text)) (2 ^ 64)) (sym (ap (in_range_by text) e) ∙ r)

pub good_size : (text : List ℕ) (h : LiteralHead) → head_of text ≡ Some h → is_in_range text ≡ true → (h.size ≡ 0 → ⊥) → (1 ≤ decimal_value (take h.size text)) × (decimal_value (take h.size text) ≤ 64)
good_size text h e r n =
    elim (or_cases (h.size == 0) (is_good_size (decimal_value (take h.size text))) (range_parts text h e r).0) [
      | inl z ↦ absurd (n (eqb-true h.size 0 z))
      | inr g ↦ let p = and_parts (nat_le 1 (decimal_value (take h.size text))) (nat_le (decimal_value (take h.size text)) 64) g in (leb-true 1 (decimal_value (take h.size text)) p.0, leb-true (decimal_value (take h.size text)) 64 p.1)
    ]

pub good_value : (text : List ℕ) (h : LiteralHead) → head_of text ≡ Some h → is_in_range text ≡ true → is_decimal_number h.base (drop h.digits text) ≡ true → decimal_value (drop h.digits text) < 2 ^ 64
good_value text h e r d =
    elim (or_cases (not (is_decimal_number h.base (drop h.digits text))) (nat_lt (decimal_value (drop h.digits text)) (2 ^ 64)) (range_parts text h e r).1) [
      | inl z ↦ absurd (both_ways (is_decimal_number h.base (drop h.digits text)) (not-true (is_decimal_number h.base (drop h.digits text)) z) d)
      | inr g ↦ ltb-true (decimal_value (drop h.digits text)) (2 ^ 64) g
    ]

abbrev plain_by : List ℕ → Bool → Bool
plain_by text q = cond q (is_short_string text) (nat_lt (decimal_value text) (2 ^ 31))

pub small_value : (text : List ℕ) → head_of text ≡ None → is_quoted text ≡ false → is_in_range text ≡ true → decimal_value text < 2 ^ 31
unfolding is_in_range
small_value text e q r = ltb-true (decimal_value text) (2 ^ 31) (sym (ap (in_range_by text) e ∙ ap (plain_by text) q) ∙ r)

pub short_string : (text : List ℕ) → head_of text ≡ None → is_quoted text ≡ true → is_in_range text ≡ true → is_short_string text ≡ true
unfolding is_in_range
short_string text e q r = sym (ap (in_range_by text) e ∙ ap (plain_by text) q) ∙ r

-- ---- the parts of a number

abbrev size_by : List ℕ → Option LiteralHead → ℕ
size_by text o = elim o [ None ↦ plain_size text | Some h ↦ cond (h.size == 0) 32 (decimal_value (take h.size text)) ]

pub size_is : (text : List ℕ) (h : LiteralHead) → head_of text ≡ Some h → literal_size text ≡ cond (h.size == 0) 32 (decimal_value (take h.size text))
unfolding literal_size
size_is text h e = ap (size_by text) e

pub unsized_is : (text : List ℕ) → head_of text ≡ None → is_quoted text ≡ false → literal_size text ≡ 32
unfolding literal_size
unsized_is text e q = ap (size_by text) e ∙ ap (λ b. cond b (string_size text) 32) q

pub string_is : (text : List ℕ) → head_of text ≡ None → is_quoted text ≡ true → literal_size text ≡ string_size text
unfolding literal_size
string_is text e q = ap (size_by text) e ∙ ap (λ b. cond b (string_size text) 32) q

abbrev bits_by : List ℕ → Option LiteralHead → List Bit4
bits_by text o = elim o [
  | None ↦ number_bits (plain_size text) (plain_value text)
  | Some h ↦ fitted (literal_size text) (fill_bit (get_or (drop h.digits text) 0 0)) (digits_bits h.base (drop h.digits text))
]

pub based_bits : (text : List ℕ) (h : LiteralHead) → head_of text ≡ Some h → literal_bits text ≡ fitted (literal_size text) (fill_bit (get_or (drop h.digits text) 0 0)) (digits_bits h.base (drop h.digits text))
unfolding literal_bits
based_bits text h e = ap (bits_by text) e

abbrev plain_bits_by : List ℕ → Bool → List Bit4
plain_bits_by text q = number_bits (cond q (string_size text) 32) (cond q (string_value text) (decimal_value text))

pub unsized_bits : (text : List ℕ) → head_of text ≡ None → is_quoted text ≡ false → literal_bits text ≡ number_bits 32 (decimal_value text)
unfolding literal_bits
unsized_bits text e q = ap (bits_by text) e ∙ ap (plain_bits_by text) q

pub string_bits : (text : List ℕ) → head_of text ≡ None → is_quoted text ≡ true → literal_bits text ≡ number_bits (string_size text) (string_value text)
unfolding literal_bits
string_bits text e q = ap (bits_by text) e ∙ ap (plain_bits_by text) q

pub signed_is : (text : List ℕ) (h : LiteralHead) → head_of text ≡ Some h → is_signed_literal text ≡ h.signed
unfolding is_signed_literal
signed_is text h e = ap (λ (o : Option LiteralHead). elim o as (λ _. Bool) [ None ↦ not (is_quoted text) | Some h ↦ h.signed ]) e

pub unsized_signed : (text : List ℕ) → head_of text ≡ None → is_signed_literal text ≡ not (is_quoted text)
unfolding is_signed_literal
unsized_signed text e = ap (λ (o : Option LiteralHead). elim o as (λ _. Bool) [ None ↦ not (is_quoted text) | Some h ↦ h.signed ]) e

pub sized_is : (text : List ℕ) (h : LiteralHead) → head_of text ≡ Some h → has_size text ≡ not (h.size == 0)
unfolding has_size
sized_is text h e = ap (λ (o : Option LiteralHead). elim o as (λ _. Bool) [ None ↦ is_quoted text | Some h ↦ not (h.size == 0) ]) e

pub unsized_has : (text : List ℕ) → head_of text ≡ None → has_size text ≡ is_quoted text
unfolding has_size
unsized_has text e = ap (λ (o : Option LiteralHead). elim o as (λ _. Bool) [ None ↦ is_quoted text | Some h ↦ not (h.size == 0) ]) e

-- ---- the bits of digits

pub digits_are : (base : Base) (digits : List ℕ) → is_decimal_number base digits ≡ false → digits_bits base digits ≡ all_digit_bits base digits
digits_are base digits e = ap (λ b. cond b (number_bits 64 (decimal_value digits)) (all_digit_bits base digits)) e

pub decimal_are : (base : Base) (digits : List ℕ) → is_decimal_number base digits ≡ true → digits_bits base digits ≡ number_bits 64 (decimal_value digits)
decimal_are base digits e = ap (λ b. cond b (number_bits 64 (decimal_value digits)) (all_digit_bits base digits)) e
