-- What the operations on 64-bit words do to the bits of a row of them.
use Rattle.std.proofs.Common.{◌≡◌, ℕ, zero, suc, ◌+◌, ◌-◌, ◌*◌, ◌/◌, ◌%◌, ◌^◌, ◌<◌, min, max, Bool, true, not, ◌&&◌, ◌||◌, ◌==◌, List, get_or, replicate, refl, ◌∙◌, ap, arith}
use Rattle.std.proofs.lemmas.List.{get_or-replicate}
use Rattle.std.proofs.lemmas.Nat.Bits.{bit_at-lt, bit_at_and, bit_at_or, bit_at_xor, bit_at_not, bit_at_ones}
use Rattle.std.specs.Prelude.{bit_and, bit_or, bit_xor}
use Rattle.std.specs.Int.{bit_at, bit_not, w64}
use Rattle.vs_plane.specs.Bits.{differ, bit_of_words}

min_is : (a b : ℕ) → a < 2 → b < 2 → (min a b == 1) ≡ ((a == 1) && (b == 1))
min_is zero zero _ _ = refl
min_is zero (suc zero) _ _ = refl
min_is (suc zero) zero _ _ = refl
min_is (suc zero) (suc zero) _ _ = refl
min_is (suc (suc a)) b h _ = absurd (let n : ⊥ = omega arith in n)
min_is a (suc (suc b)) _ h = absurd (let n : ⊥ = omega arith in n)

max_is : (a b : ℕ) → a < 2 → b < 2 → (max a b == 1) ≡ ((a == 1) || (b == 1))
max_is zero zero _ _ = refl
max_is zero (suc zero) _ _ = refl
max_is (suc zero) zero _ _ = refl
max_is (suc zero) (suc zero) _ _ = refl
max_is (suc (suc a)) b h _ = absurd (let n : ⊥ = omega arith in n)
max_is a (suc (suc b)) _ h = absurd (let n : ⊥ = omega arith in n)

sum_is : (a b : ℕ) → a < 2 → b < 2 → ((a + b) % 2 == 1) ≡ differ (a == 1) (b == 1)
sum_is zero zero _ _ = refl
sum_is zero (suc zero) _ _ = refl
sum_is (suc zero) zero _ _ = refl
sum_is (suc zero) (suc zero) _ _ = refl
sum_is (suc (suc a)) b h _ = absurd (let n : ⊥ = omega arith in n)
sum_is a (suc (suc b)) _ h = absurd (let n : ⊥ = omega arith in n)

rest_is : (a : ℕ) → a < 2 → ((1 - a) == 1) ≡ not (a == 1)
rest_is zero _ = refl
rest_is (suc zero) _ = refl
rest_is (suc (suc a)) h = absurd (let n : ⊥ = omega arith in n)

-- whether bit i of a word is 1
abbrev pub bit_is : ℕ → ℕ → Bool
bit_is x i = bit_at x i == 1

pub and_is : (x y i : ℕ) → bit_is (bit_and x y) i ≡ (bit_is x i && bit_is y i)
and_is x y i = ap (λ n. n == 1) (bit_at_and x y i) ∙ min_is (bit_at x i) (bit_at y i) (bit_at-lt x i) (bit_at-lt y i)

pub or_is : (x y i : ℕ) → bit_is (bit_or x y) i ≡ (bit_is x i || bit_is y i)
or_is x y i = ap (λ n. n == 1) (bit_at_or x y i) ∙ max_is (bit_at x i) (bit_at y i) (bit_at-lt x i) (bit_at-lt y i)

pub xor_is : (x y i : ℕ) → bit_is (bit_xor x y) i ≡ differ (bit_is x i) (bit_is y i)
xor_is x y i = ap (λ n. n == 1) (bit_at_xor x y i) ∙ sum_is (bit_at x i) (bit_at y i) (bit_at-lt x i) (bit_at-lt y i)

pub not_is : (x i : ℕ) → x < 2 ^ 64 → i < 64 → bit_is (bit_not w64 x) i ≡ not (bit_is x i)
not_is x i fits small = ap (λ n. n == 1) (bit_at_not w64 x i fits small) ∙ rest_is (bit_at x i) (bit_at-lt x i)

-- the word of a lane is one of the words
pub place_within : (n i : ℕ) → i < 64 * min n 67108863 → i / 64 < n
place_within n i h = omega arith

low_within : (i : ℕ) → i % 64 < 64
low_within i = omega arith

-- a row made word by word, by an operation that goes bit by bit
pub lanes_by : (f : ℕ → ℕ → ℕ) (g : Bool → Bool → Bool) (law : (x y i : ℕ) → bit_is (f x y) i ≡ g (bit_is x i) (bit_is y i)) (row a b : List ℕ) (n : ℕ) → ((j : ℕ) → j < n → get_or row j 0 ≡ f (get_or a j 0) (get_or b j 0)) → (i : ℕ) → i / 64 < n → bit_of_words row i ≡ g (bit_of_words a i) (bit_of_words b i)
lanes_by f g law row a b n each i within = ap (λ x. bit_is x (i % 64)) (each (i / 64) within) ∙ law (get_or a (i / 64) 0) (get_or b (i / 64) 0) (i % 64)

pub lanes_not : (row a : List ℕ) (n : ℕ) → ((j : ℕ) → j < n → get_or row j 0 ≡ bit_not w64 (get_or a j 0)) → ((j : ℕ) → j < n → get_or a j 0 < 2 ^ 64) → (i : ℕ) → i / 64 < n → bit_of_words row i ≡ not (bit_of_words a i)
lanes_not row a n each fits i within = ap (λ x. bit_is x (i % 64)) (each (i / 64) within) ∙ not_is (get_or a (i / 64) 0) (i % 64) (fits (i / 64) within) (low_within i)

pub lanes_all : (n i : ℕ) → i / 64 < n → bit_of_words (replicate n 18446744073709551615) i ≡ true
lanes_all n i within = ap (λ x. bit_is x (i % 64)) (get_or-replicate _ _ _ _ within) ∙ ap (λ x. x == 1) (bit_at_ones 64 (i % 64) (low_within i))
