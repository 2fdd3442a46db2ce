-- Shifts on planes.
use Rattle.std.proofs.Common.{◌≡◌, ℕ, ◌+◌, ◌-◌, ◌*◌, ◌/◌, ◌%◌, ◌^◌, ◌<◌, ◌≤◌, if◌then◌else◌, nat_lt, List, ◌++◌, length, take, drop, replicate, bit_and, refl, sym, ap, ap₂, ◌∙◌, arith}
use Rattle.std.proofs.lemmas.Nat.{pow_pos, pow-add, and_mask, div_below}
use Rattle.std.proofs.lemmas.Nat.Bits.{ones_shr}
use Rattle.std.proofs.lemmas.Bool.{cond_both, ltb-false}
use Rattle.std.proofs.lemmas.List.{length-replicate, length-drop, take-replicate}
use Rattle.std.proofs.Math.Nat.{pow-le-pow_right, mul-mod_left, div-eq_of_lt}
use Rattle.std.proofs.Math.Seq.{take-append-add}
use Rattle.vs_four.specs.declared.Bit4.{Bit4}
use Rattle.vs_four.specs.declared.Bit4.TheVariants.{Zero}
use Rattle.vs_four.specs.Planes.{value_digit, unknown_digit, bits_of_planes}
use Rattle.vs_four.specs.PlanesBack.{length-planes}
use Rattle.vs_four.specs.Shifts.{move_up, move_down}
use Rattle.vs_four.proofs.PlaneParts.{append-planes, replicate-planes, take-planes, drop-planes, mod-planes}
use Rattle.vs_four.proofs.LengthsLemmas.{filled, filled-below, extend-planes}
use Rattle.vs_four.proofs.NumberLemmas.{mod_mod}

-- ---- words moved by any number of places

-- beyond 64 places up nothing is left
pub whole_word : (word places : ℕ) → 64 ≤ places → (word * 2 ^ places) % 2 ^ 64 ≡ 0
whole_word word places above =
    let split : 2 ^ places ≡ 2 ^ (places - 64) * 2 ^ 64 = ap (λ (n : ℕ). 2 ^ n) (omega arith) ∙ pow-add 2 (places - 64) 64 in
    let whole : word * 2 ^ places ≡ (word * 2 ^ (places - 64)) * 2 ^ 64 = ap (λ (p : ℕ). word * p) split ∙ omega arith in
    ap (λ (n : ℕ). n % 2 ^ 64) whole ∙ mul-mod_left (word * 2 ^ (places - 64)) (2 ^ 64)

pub shl_is : (word places : ℕ) → (if nat_lt places 64 then (word * 2 ^ places) % 2 ^ 64 else 0) ≡ (word * 2 ^ places) % 2 ^ 64
shl_is word places =
    cond_both (nat_lt places 64) ((word * 2 ^ places) % 2 ^ 64) 0 (λ r. r ≡ (word * 2 ^ places) % 2 ^ 64)
    (λ e. refl)
    (λ e. sym (whole_word word places (ltb-false places 64 e)))

pub shr_is : (word places : ℕ) → word < 2 ^ 64 → (if nat_lt places 64 then word / 2 ^ places else 0) ≡ word / 2 ^ places
shr_is word places h =
    cond_both (nat_lt places 64) (word / 2 ^ places) 0 (λ r. r ≡ word / 2 ^ places)
    (λ e. refl)
    (λ e.
    let more : 2 ^ 64 ≤ 2 ^ places = pow-le-pow_right (omega arith) {i = 64} {j = places} (ltb-false places 64 e) in
    sym (div-eq_of_lt (omega (arith, h, more))))

-- ---- up

-- a word moved up within n bits
pub masked_up : (n p v : ℕ) → n ≤ 64 → bit_and ((v * 2 ^ p) % 2 ^ 64) (2 ^ n - 1) ≡ (v * 2 ^ p) % 2 ^ n
masked_up n p v h = and_mask ((v * 2 ^ p) % 2 ^ 64) n ∙ mod_mod n 64 (v * 2 ^ p) h

pub move_up-planes : (n p v u : ℕ) → p ≤ n → bits_of_planes n ((v * 2 ^ p) % 2 ^ n) ((u * 2 ^ p) % 2 ^ n) ≡ move_up Zero p (bits_of_planes n v u)
move_up-planes n p v u h =
    let m : ℕ = n - p in
    let e : n ≡ p + m = omega arith in
    let value : v * 2 ^ p ≡ 0 + 2 ^ p * v = omega arith in
    let unknown : u * 2 ^ p ≡ 0 + 2 ^ p * u = omega arith in
    let zeros : bits_of_planes p 0 0 ≡ replicate p Zero = ap₂ (bits_of_planes p) (omega arith) (omega arith) ∙ replicate-planes p Zero in
    let a : List Bit4 = bits_of_planes n v u in
    let count : length a ≡ length (replicate p Zero) + m = length-planes n v u ∙ e ∙ ap (λ (k : ℕ). k + m) (sym (length-replicate p Zero)) in
    mod-planes n (v * 2 ^ p) (u * 2 ^ p)
    ∙ ap (λ k. bits_of_planes k (v * 2 ^ p) (u * 2 ^ p)) e
    ∙ ap₂ (bits_of_planes (p + m)) value unknown
    ∙ append-planes p m 0 0 v u (pow_pos p) (pow_pos p)
    ∙ ap₂ ◌++◌ zeros (sym (take-planes m n v u (omega arith)))
    ∙ sym (ap (λ k. take k (replicate p Zero ++ a)) count ∙ take-append-add (replicate p Zero) a m)

-- ---- down

pub down_below : (n p v : ℕ) → p ≤ n → v < 2 ^ n → v / 2 ^ p < 2 ^ (n - p)
down_below n p v h below =
    let e : 2 ^ n ≡ 2 ^ (n - p) * 2 ^ p = ap (λ (k : ℕ). 2 ^ k) (omega arith) ∙ pow-add 2 (n - p) p in
    div_below v (2 ^ p) (2 ^ (n - p)) (pow_pos p) (omega (arith, below, e))

pub above_is : (n p : ℕ) → p ≤ n → (2 ^ n - 1) - (2 ^ n - 1) / 2 ^ p ≡ (2 ^ n - 1) - (2 ^ (n - p) - 1)
above_is n p h = ap (λ (k : ℕ). (2 ^ n - 1) - k) (ones_shr n p h)

-- a word moved down, and this digit from there to place n
abbrev pub filled_down : ℕ → ℕ → ℕ → ℕ → ℕ
filled_down n p v d = filled (n - p) n (v / 2 ^ p) d

pub filled_down-below : (n p v d : ℕ) → p ≤ n → v < 2 ^ n → d < 2 → filled_down n p v d < 2 ^ n
filled_down-below n p v d h below digit = filled-below (n - p) n (v / 2 ^ p) d (omega arith) (down_below n p v h below) digit

pub move_down-planes : (n p v u : ℕ) (fill : Bit4) → p ≤ n → v < 2 ^ n → u < 2 ^ n
    → bits_of_planes n (filled_down n p v (value_digit fill)) (filled_down n p u (unknown_digit fill)) ≡ move_down fill p (bits_of_planes n v u)
move_down-planes n p v u fill h below unknown =
    let m : ℕ = n - p in
    let e : p + m ≡ n = omega arith in
    let rest : n - m ≡ p = omega arith in
    let a : List Bit4 = bits_of_planes n v u in
    let dropped : bits_of_planes m (v / 2 ^ p) (u / 2 ^ p) ≡ drop p a = sym (drop-planes p m v u) ∙ ap (λ k. drop p (bits_of_planes k v u)) e in
    let count : length a ≡ length (drop p a) + p = omega (arith, length-planes n v u, length-drop p a) in
    extend-planes m n (v / 2 ^ p) (u / 2 ^ p) fill (omega arith) (down_below n p v h below) (down_below n p u h unknown)
    ∙ ap₂ (λ xs k. xs ++ replicate k fill) dropped rest
    ∙ sym (ap (λ k. take k (drop p a ++ replicate (length a) fill)) count
    ∙ take-append-add (drop p a) (replicate (length a) fill) p
    ∙ ap (λ xs. drop p a ++ xs) (take-replicate p (length a) fill (omega (arith, length-planes n v u))))

-- a plane fits a word
pub word_fits : (n v : ℕ) → n ≤ 64 → v < 2 ^ n → v < 2 ^ 64
word_fits n v h below =
    let more : 2 ^ n ≤ 2 ^ 64 = pow-le-pow_right (omega arith) {i = n} {j = 64} h in
    omega (arith, below, more)
