-- Values of bits that follow one another.
use Rattle.std.proofs.Common.{◌≡◌, ℕ, zero, suc, ◌+◌, ◌-◌, ◌*◌, ◌<◌, ◌≤◌, List, [], ◌∷◌, length, map, take, drop, get_or, replicate, set, ◌++◌, Option, Some, None, refl, sym, ap, ap₂, ◌∙◌, arith}
use Rattle.std.specs.Prelude.{slice_get}
use Rattle.std.proofs.lemmas.List.{drop_more}
use Rattle.std.proofs.Math.Seq.{take-append_seam}
use mathlib.Core.Path.{fun_ext}
use Rattle.vs_four.specs.declared.Bit4.{Bit4}
use Rattle.vs_four.specs.declared.Bit4.TheVariants.{X}
use Rattle.vs_four.specs.Logic.{BitList}
use Rattle.vs_four.specs.Selects.{at_place}
use Rattle.vs_net.specs.Network.{State, put, write_all}
use Rattle.vs_design.specs.Effects.{pair_up}
use Rattle.vs_design.specs.Values.{count_from, spread}
use Rattle.vs_sets.proofs.WordSteps.{word_ends}
use Rattle.vs_writes.specs.Held.{state_of}
use Rattle.vs_writes.proofs.Writing.{state_set}

pub bits_are : (values : List Bit4) (first n : ℕ) → first + n ≤ length values → map (state_of values) (count_from first n) ≡ take n (drop first values)
bits_are values first zero h = refl
bits_are values first (suc n) h =
    let e = drop_more values first X (omega arith) in
    let next : suc first ≡ first + 1 = omega arith in
    let k = bits_are values (suc first) n (omega arith) ∙ ap (λ m. take n (drop m values)) next in
    ap {B = BitList} (λ t. get_or values first X ∷ t) k ∙ ap {B = BitList} (take (suc n)) (sym e)

-- ---- words

-- the bit at a place below the length of a run of bits
place_value : (s : State) (first len k : ℕ) → k < len → get_or (map s (count_from first len)) k X ≡ s (first + k)
place_value s first zero k h = absurd (omega arith)
place_value s first (suc len) zero h = let same : first ≡ first + 0 = omega arith in ap s same
place_value s first (suc len) (suc k) h = let next : suc first + k ≡ first + suc k = omega arith in place_value s (suc first) len k (omega arith) ∙ ap s next

run_value : (s : State) (first len m n : ℕ) → m + n ≤ len → map (at_place X (map s (count_from first len))) (map Some (count_from m n)) ≡ map s (count_from (first + m) n)
run_value s first len m zero h = refl
run_value s first len m (suc n) h =
    let here = place_value s first len m (omega arith) in
    let next : first + suc m ≡ suc (first + m) = omega arith in
    ap₂ {C = BitList} (λ b bs. b ∷ bs) here (run_value s first len (suc m) n (omega arith) ∙ ap (λ k. map s (count_from k n)) next)

pub word_is : (s : State) (first len count n : ℕ) (place : Option ℕ) → n < count → place ≡ Some n → map s (count_from (first + n * len) len) ≡ map (at_place X (map s (count_from first (count * len)))) (spread len place)
word_is s first len count n place h e = sym (run_value s first (count * len) (n * len) len (word_ends count len n h)) ∙ ap (λ p. map (at_place X (map s (count_from first (count * len)))) (spread len p)) (sym e)

nones : (xs : BitList) (n : ℕ) → map (at_place X xs) (replicate n None) ≡ replicate n X
nones xs zero = refl
nones xs (suc n) = ap {B = BitList} (λ bs. X ∷ bs) (nones xs n)

pub no_word : (xs : BitList) (len : ℕ) (place : Option ℕ) → place ≡ None → replicate len X ≡ map (at_place X xs) (spread len place)
no_word xs len place e = sym (nones xs len) ∙ ap (λ p. map (at_place X xs) (spread len p)) (sym e)

-- ---- writing

pub put_step : (values : List Bit4) (first k : ℕ) (value : BitList) (v : Bit4) → k < length value → first + k < length values → v ≡ get_or value k v
    → write_all (state_of (set values (first + k) v)) (pair_up (map Some (count_from (first + (k + 1)) (length value - (k + 1)))) (drop (k + 1) value)) ≡ write_all (state_of values) (pair_up (map Some (count_from (first + k) (length value - k))) (drop k value))
unfolding write_all
put_step values first k value v h inside is =
    let rest = drop (k + 1) value in
    let left = length value - (k + 1) in
    let count : length value - k ≡ suc left = omega arith in
    let next : suc (first + k) ≡ first + (k + 1) = omega arith in
    let front : drop k value ≡ v ∷ rest = drop_more value k v h ∙ ap {B = BitList} (λ x. x ∷ rest) (sym is) in
    ap (λ s. write_all s (pair_up (map Some (count_from (first + (k + 1)) left)) rest)) (state_set values (first + k) v inside)
    ∙ ap (λ m. write_all (put (state_of values) (first + k) v) (pair_up (map Some (count_from m left)) rest)) (sym next)
    ∙ ap₂ (λ n vs. write_all (state_of values) (pair_up (map Some (count_from (first + k) n)) vs)) (sym count) (sym front)

-- ---- local values

pub all_unset : (n : ℕ) → state_of (replicate n X) ≡ (λ b. X)
all_unset n = fun_ext (λ b. at n b) where
  at : (n b : ℕ) → get_or (replicate n X) b X ≡ X
  at zero b = refl
  at (suc n) zero = refl
  at (suc n) (suc b) = at n b

pub seam : (n : ℕ) (xs ys : List Bit4) → n ≡ length xs → take n (xs ++ ys) ≡ xs
seam n xs ys h = ap {B = List Bit4} (λ m. take m (xs ++ ys)) h ∙ take-append_seam xs ys

pub put_done : (s all : State) (first k : ℕ) (value : BitList) → length value ≤ k → write_all s (pair_up (map Some (count_from (first + k) (length value - k))) (drop k value)) ≡ all → s ≡ all
unfolding write_all
put_done s all first k value done so_far = let none : length value - k ≡ 0 = omega arith in ap (λ n. write_all s (pair_up (map Some (count_from (first + k) n)) (drop k value))) (sym none) ∙ so_far

pub get_at : (xs : BitList) (k : ℕ) (v : Bit4) → slice_get xs k ≡ Some v → v ≡ get_or xs k v
get_at [] k v h = absurd (let z : ⊥ = cc in z)
get_at (x ∷ xs) zero v h = cc
get_at (x ∷ xs) (suc k) v h = get_at xs k v h
