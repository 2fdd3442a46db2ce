-- Reductions on planes.
use Rattle.std.proofs.Common.{◌≡◌, ℕ, zero, suc, ◌+◌, ◌-◌, ◌*◌, ◌/◌, ◌%◌, ◌^◌, ◌<◌, Bool, true, false, ◌&&◌, ◌==◌, List, [], ◌∷◌, bit_or, bit_xor, count_ones, refl, sym, ap, ap₂, ◌∙◌, arith}
use Rattle.std.proofs.lemmas.Nat.{pow_pos, ones_cat, ones_le_self, div-add-mod'}
use Rattle.std.specs.Int.Count.{ones-ones}
use Rattle.std.proofs.lemmas.Bool.{and_parts}
use Rattle.std.proofs.lemmas.Bool.Decides.{nat_tests}
use Rattle.std.proofs.Math.Nat.{pow-suc}
use Rattle.vs_four.specs.declared.Bit4.{Bit4}
use Rattle.vs_four.specs.declared.Bit4.TheVariants.{Zero, One, X, Z}
use Rattle.vs_four.specs.Planes.{decode, bits_of_planes}
use Rattle.vs_four.specs.PlanesBack.{by_bit}
use Rattle.vs_four.specs.Tables.{same, of_bool, and_bit, or_bit, xor_bit}
use Rattle.vs_four.specs.Logic.{fold_with, reduce_and, reduce_or, reduce_xor}
use Rattle.vs_four.proofs.PlanesLemmas.{or_half, or_low, xor_half, xor_low, ones_half, ones_low}
use Rattle.vs_four.proofs.LogicLemmas.{less_ones, less_ones-low, less_ones-half, by_two}

-- ---- tests of all bits

pub same_true : (a b : Bit4) → same a b ≡ true → a ≡ b
same_true Zero Zero h = refl
same_true Zero One h = cc
same_true Zero X h = cc
same_true Zero Z h = cc
same_true One Zero h = cc
same_true One One h = refl
same_true One X h = cc
same_true One Z h = cc
same_true X Zero h = cc
same_true X One h = cc
same_true X X h = refl
same_true X Z h = cc
same_true Z Zero h = cc
same_true Z One h = cc
same_true Z X h = cc
same_true Z Z h = refl

abbrev pub of_all : (Bit4 → Bool) → Bool
of_all p = p Zero && (p One && (p X && p Z))

pub at_each : (p : Bit4 → Bool) → of_all p ≡ true → (b : Bit4) → p b ≡ true
at_each p h Zero = (and_parts (p Zero) (p One && (p X && p Z)) h).0
at_each p h One = (and_parts (p One) (p X && p Z) (and_parts (p Zero) (p One && (p X && p Z)) h).1).0
at_each p h X = (and_parts (p X) (p Z) (and_parts (p One) (p X && p Z) (and_parts (p Zero) (p One && (p X && p Z)) h).1).1).0
at_each p h Z = (and_parts (p X) (p Z) (and_parts (p One) (p X && p Z) (and_parts (p Zero) (p One && (p X && p Z)) h).1).1).1

-- ---- a fold from another first value

-- the value isn't changed by the fold's first value
abbrev IsKept : (Bit4 → Bit4 → Bit4) → Bit4 → Bit4 → Type 0
IsKept op first f = op f first ≡ f

fold-from : (op : Bit4 → Bit4 → Bit4) (first : Bit4)
    → ((f b r : Bit4) → op (op f b) r ≡ op f (op (op first b) r))
    → ((f b : Bit4) → op (op f b) first ≡ op f b)
    → (f : Bit4) (xs : List Bit4) → op f first ≡ f → fold_with op f xs ≡ op f (fold_with op first xs)
fold-from op first regroup kept f [] h = sym h
fold-from op first regroup kept f (b ∷ xs) h =
    fold-from op first regroup kept (op f b) xs (kept f b)
    ∙ regroup f b (fold_with op first xs)
    ∙ ap (op f) (sym (fold-from op first regroup kept (op first b) xs (kept first b)))

regroup_and : (f b r : Bit4) → and_bit (and_bit f b) r ≡ and_bit f (and_bit (and_bit One b) r)
regroup_and f b r =
    same_true _ _ (at_each (λ z. same (and_bit (and_bit f b) z) (and_bit f (and_bit (and_bit One b) z)))
    (at_each (λ y. of_all (λ z. same (and_bit (and_bit f y) z) (and_bit f (and_bit (and_bit One y) z))))
    (at_each (λ x. of_all (λ y. of_all (λ z. same (and_bit (and_bit x y) z) (and_bit x (and_bit (and_bit One y) z))))) refl f) b) r)

kept_and : (f b : Bit4) → and_bit (and_bit f b) One ≡ and_bit f b
kept_and f b = same_true _ _ (at_each (λ y. same (and_bit (and_bit f y) One) (and_bit f y)) (at_each (λ x. of_all (λ y. same (and_bit (and_bit x y) One) (and_bit x y))) refl f) b)

regroup_or : (f b r : Bit4) → or_bit (or_bit f b) r ≡ or_bit f (or_bit (or_bit Zero b) r)
regroup_or f b r =
    same_true _ _ (at_each (λ z. same (or_bit (or_bit f b) z) (or_bit f (or_bit (or_bit Zero b) z)))
    (at_each (λ y. of_all (λ z. same (or_bit (or_bit f y) z) (or_bit f (or_bit (or_bit Zero y) z))))
    (at_each (λ x. of_all (λ y. of_all (λ z. same (or_bit (or_bit x y) z) (or_bit x (or_bit (or_bit Zero y) z))))) refl f) b) r)

kept_or : (f b : Bit4) → or_bit (or_bit f b) Zero ≡ or_bit f b
kept_or f b = same_true _ _ (at_each (λ y. same (or_bit (or_bit f y) Zero) (or_bit f y)) (at_each (λ x. of_all (λ y. same (or_bit (or_bit x y) Zero) (or_bit x y))) refl f) b)

regroup_xor : (f b r : Bit4) → xor_bit (xor_bit f b) r ≡ xor_bit f (xor_bit (xor_bit Zero b) r)
regroup_xor f b r =
    same_true _ _ (at_each (λ z. same (xor_bit (xor_bit f b) z) (xor_bit f (xor_bit (xor_bit Zero b) z)))
    (at_each (λ y. of_all (λ z. same (xor_bit (xor_bit f y) z) (xor_bit f (xor_bit (xor_bit Zero y) z))))
    (at_each (λ x. of_all (λ y. of_all (λ z. same (xor_bit (xor_bit x y) z) (xor_bit x (xor_bit (xor_bit Zero y) z))))) refl f) b) r)

kept_xor : (f b : Bit4) → xor_bit (xor_bit f b) Zero ≡ xor_bit f b
kept_xor f b = same_true _ _ (at_each (λ y. same (xor_bit (xor_bit f y) Zero) (xor_bit f y)) (at_each (λ x. of_all (λ y. same (xor_bit (xor_bit x y) Zero) (xor_bit x y))) refl f) b)

pub reduce_and-cons : (b : Bit4) (xs : List Bit4) → reduce_and (b ∷ xs) ≡ and_bit (and_bit One b) (reduce_and xs)
reduce_and-cons b xs = fold-from and_bit One regroup_and kept_and (and_bit One b) xs (kept_and One b)

pub reduce_or-cons : (b : Bit4) (xs : List Bit4) → reduce_or (b ∷ xs) ≡ or_bit (or_bit Zero b) (reduce_or xs)
reduce_or-cons b xs = fold-from or_bit Zero regroup_or kept_or (or_bit Zero b) xs (kept_or Zero b)

pub reduce_xor-cons : (b : Bit4) (xs : List Bit4) → reduce_xor (b ∷ xs) ≡ xor_bit (xor_bit Zero b) (reduce_xor xs)
reduce_xor-cons b xs = fold-from xor_bit Zero regroup_xor kept_xor (xor_bit Zero b) xs (kept_xor Zero b)

-- ---- on planes

half_below : (n v : ℕ) → v < 2 ^ suc n → v / 2 < 2 ^ n
half_below n v h = omega (arith, h, pow-suc 2 n)

all_ones : (n w : ℕ) → (w == 2 ^ suc n - 1) ≡ (w % 2 == 1 && w / 2 == 2 ^ n - 1)
all_ones n w =
    let p : 2 ^ suc n ≡ 2 ^ n * 2 = pow-suc 2 n in
    let q : 0 < 2 ^ n = pow_pos n in
    grind (arith, nat_tests)

no_ones : (w : ℕ) → (w == 0) ≡ (w % 2 == 0 && w / 2 == 0)
no_ones w = grind (arith, nat_tests)

-- of a conjunction: whether no bit is 0, and whether all bits are known
abbrev pub conjunction : Bool → Bool → Bit4
conjunction false known = Zero
conjunction true true = One
conjunction true false = X

conjunction-step : (v u : ℕ) (p q : Bool) → and_bit (and_bit One (decode (v % 2) (u % 2))) (conjunction p q) ≡ conjunction (bit_or (v % 2) (u % 2) == 1 && p) (u % 2 == 0 && q)
conjunction-step v u true true = by_two (λ a b. and_bit (and_bit One (decode a b)) (conjunction true true) ≡ conjunction (bit_or a b == 1 && true) (b == 0 && true)) refl refl refl refl v u
conjunction-step v u true false = by_two (λ a b. and_bit (and_bit One (decode a b)) (conjunction true false) ≡ conjunction (bit_or a b == 1 && true) (b == 0 && false)) refl refl refl refl v u
conjunction-step v u false q = by_two (λ a b. and_bit (and_bit One (decode a b)) (conjunction false q) ≡ conjunction (bit_or a b == 1 && false) (b == 0 && q)) refl refl refl refl v u

pub reduce_and-planes : (n v u : ℕ) → v < 2 ^ n → u < 2 ^ n → reduce_and (bits_of_planes n v u) ≡ conjunction (bit_or v u == 2 ^ n - 1) (u == 0)
unfolding bits_of_planes
reduce_and-planes zero zero zero h k = refl
reduce_and-planes zero zero (suc u) h k = absurd (omega (arith, k))
reduce_and-planes zero (suc v) u h k = absurd (omega (arith, h))
reduce_and-planes (suc n) v u h k =
    reduce_and-cons (decode (v % 2) (u % 2)) (bits_of_planes n (v / 2) (u / 2))
    ∙ ap (and_bit (and_bit One (decode (v % 2) (u % 2)))) (reduce_and-planes n (v / 2) (u / 2) (half_below n v h) (half_below n u k))
    ∙ conjunction-step v u (bit_or (v / 2) (u / 2) == 2 ^ n - 1) (u / 2 == 0)
    ∙ sym (ap₂ conjunction
    (all_ones n (bit_or v u) ∙ ap₂ (λ a b. a == 1 && b == 2 ^ n - 1) (or_low v u) (or_half v u))
    (no_ones u))

-- of a disjunction: whether no bit is 1, and whether all bits are known
abbrev pub disjunction : Bool → Bool → Bit4
disjunction false known = One
disjunction true true = Zero
disjunction true false = X

disjunction-step : (v u : ℕ) (p q : Bool) → or_bit (or_bit Zero (decode (v % 2) (u % 2))) (disjunction p q) ≡ disjunction (less_ones (v % 2) (u % 2) == 0 && p) (u % 2 == 0 && q)
disjunction-step v u true true = by_two (λ a b. or_bit (or_bit Zero (decode a b)) (disjunction true true) ≡ disjunction (less_ones a b == 0 && true) (b == 0 && true)) refl refl refl refl v u
disjunction-step v u true false = by_two (λ a b. or_bit (or_bit Zero (decode a b)) (disjunction true false) ≡ disjunction (less_ones a b == 0 && true) (b == 0 && false)) refl refl refl refl v u
disjunction-step v u false q = by_two (λ a b. or_bit (or_bit Zero (decode a b)) (disjunction false q) ≡ disjunction (less_ones a b == 0 && false) (b == 0 && q)) refl refl refl refl v u

pub reduce_or-planes : (n v u : ℕ) → v < 2 ^ n → u < 2 ^ n → reduce_or (bits_of_planes n v u) ≡ disjunction (less_ones v u == 0) (u == 0)
unfolding bits_of_planes
reduce_or-planes zero zero zero h k = refl
reduce_or-planes zero zero (suc u) h k = absurd (omega (arith, k))
reduce_or-planes zero (suc v) u h k = absurd (omega (arith, h))
reduce_or-planes (suc n) v u h k =
    reduce_or-cons (decode (v % 2) (u % 2)) (bits_of_planes n (v / 2) (u / 2))
    ∙ ap (or_bit (or_bit Zero (decode (v % 2) (u % 2)))) (reduce_or-planes n (v / 2) (u / 2) (half_below n v h) (half_below n u k))
    ∙ disjunction-step v u (less_ones (v / 2) (u / 2) == 0) (u / 2 == 0)
    ∙ sym (ap₂ disjunction
    (no_ones (less_ones v u) ∙ ap₂ (λ a b. a == 0 && b == 0) (less_ones-low v u) (less_ones-half v u))
    (no_ones u))

-- of an exclusive disjunction: the number of ones, and whether all bits are known
abbrev pub parity : ℕ → Bool → Bit4
parity n true = of_bool (n % 2 == 1)
parity n false = X

ones_more : (v : ℕ) → count_ones v ≡ count_ones (v / 2) + v % 2
ones_more v =
    let low : count_ones (v % 2) ≡ v % 2 = by_bit (λ d. count_ones d ≡ d) (omega (arith, ones_le_self 0)) (ones-ones 1) v in
    ap count_ones (sym (div-add-mod' v 2)) ∙ ones_cat 1 (v / 2) (v % 2) (omega arith) ∙ ap (λ (n : ℕ). count_ones (v / 2) + n) low

parity-step : (v u c : ℕ) (q : Bool) → xor_bit (xor_bit Zero (decode (v % 2) (u % 2))) (parity c q) ≡ parity (c + v % 2) (u % 2 == 0 && q)
parity-step v u c false = by_two (λ a b. xor_bit (xor_bit Zero (decode a b)) X ≡ parity (c + a) (b == 0 && false)) refl refl refl refl v u
parity-step v u c true =
    let more : (a : ℕ) → (c + a) % 2 ≡ (c % 2 + a) % 2 = λ a. omega arith in
    by_two (λ a b. xor_bit (xor_bit Zero (decode a b)) (of_bool (c % 2 == 1)) ≡ parity (c + a) (b == 0 && true))
    (rw (more 0) (by_bit (λ m. xor_bit Zero (of_bool (m == 1)) ≡ of_bool ((m + 0) % 2 == 1)) refl refl c))
    (by_bit (λ m. xor_bit X (of_bool (m == 1)) ≡ X) refl refl c)
    (rw (more 1) (by_bit (λ m. xor_bit One (of_bool (m == 1)) ≡ of_bool ((m + 1) % 2 == 1)) refl refl c))
    (by_bit (λ m. xor_bit X (of_bool (m == 1)) ≡ X) refl refl c)
    v u

no_count : (p : Bool) → p ≡ true → Zero ≡ parity (count_ones 0) p
no_count p h =
    let e : count_ones 0 ≡ 0 = omega (arith, ones_le_self 0) in
    rw (h, e) refl

pub reduce_xor-planes : (n v u : ℕ) → v < 2 ^ n → u < 2 ^ n → reduce_xor (bits_of_planes n v u) ≡ parity (count_ones v) (u == 0)
unfolding bits_of_planes
reduce_xor-planes zero zero zero h k = no_count true refl
reduce_xor-planes zero zero (suc u) h k = absurd (omega (arith, k))
reduce_xor-planes zero (suc v) u h k = absurd (omega (arith, h))
reduce_xor-planes (suc n) v u h k =
    reduce_xor-cons (decode (v % 2) (u % 2)) (bits_of_planes n (v / 2) (u / 2))
    ∙ ap (xor_bit (xor_bit Zero (decode (v % 2) (u % 2)))) (reduce_xor-planes n (v / 2) (u / 2) (half_below n v h) (half_below n u k))
    ∙ parity-step v u (count_ones (v / 2)) (u / 2 == 0)
    ∙ sym (ap₂ parity (ones_more v) (no_ones u))

-- ---- whether two vectors differ at some place

difference-step : (d : ℕ) (p : Bool) → and_bit (and_bit One (decode (bit_xor 1 (d % 2)) 0)) (of_bool p) ≡ of_bool (d % 2 == 0 && p)
difference-step d true = by_bit (λ a. and_bit (and_bit One (decode (bit_xor 1 a) 0)) (of_bool true) ≡ of_bool (a == 0 && true)) refl refl d
difference-step d false = by_bit (λ a. and_bit (and_bit One (decode (bit_xor 1 a) 0)) (of_bool false) ≡ of_bool (a == 0 && false)) refl refl d

-- the test is 1 where no place differs
pub no_difference-planes : (n d : ℕ) → d < 2 ^ n → reduce_and (bits_of_planes n (bit_xor (2 ^ n - 1) d) 0) ≡ of_bool (d == 0)
unfolding bits_of_planes
no_difference-planes zero zero h = refl
no_difference-planes zero (suc d) h = absurd (omega (arith, h))
no_difference-planes (suc n) d h =
    rw (xor_low (2 ^ suc n - 1) d, xor_half (2 ^ suc n - 1) d, ones_low n, ones_half n)
    (reduce_and-cons (decode (bit_xor 1 (d % 2)) 0) (bits_of_planes n (bit_xor (2 ^ n - 1) (d / 2)) 0)
    ∙ ap (and_bit (and_bit One (decode (bit_xor 1 (d % 2)) 0))) (no_difference-planes n (d / 2) (half_below n d h))
    ∙ difference-step d (d / 2 == 0)
    ∙ ap of_bool (sym (no_ones d)))
