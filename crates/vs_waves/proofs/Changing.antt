-- The signals that change, one after the other.
use Rattle.std.proofs.Common.{◌≡◌, ℕ, zero, suc, ◌+◌, ◌<◌, ◌≤◌, Bool, true, false, not, ◌||◌, if◌then◌else◌, List, [], ◌∷◌, ◌++◌, append-nil, length, map, take, take_all, get_or, refl, sym, ap, ap₂, ◌∙◌, arith}
use Rattle.std.proofs.lemmas.Grind.{flat_map-append}
use Rattle.vs_four.specs.declared.Bit4.{Bit4}
use Rattle.vs_four.specs.declared.Bit4.TheVariants.{One}
use Rattle.vs_four.specs.Tables.{is_one, and_bit, same, same_bit, of_bool}
use Rattle.vs_four.specs.Logic.{BitList, map2, fold_with, identical}
use Rattle.vs_net.specs.Network.{State}
use Rattle.vs_design.specs.Values.{count_from}
use Rattle.vs_engine.specs.Lanes.{differ_below}
use Rattle.vs_engine.proofs.Spans.{count_from-more, length-read}
use Rattle.vs_vcd.specs.Values.{value_line}
use Rattle.vs_vcd.specs.Texts.{changed_from, value_lines}

-- ---- whether two values are one

-- one more bit of each
identical_more : (first : Bit4) (a b : BitList) (x y : Bit4) → length a ≡ length b
    → fold_with and_bit first (map2 same_bit (a ++ x ∷ []) (b ++ y ∷ [])) ≡ and_bit (fold_with and_bit first (map2 same_bit a b)) (same_bit x y)
identical_more first [] [] x y h = refl
identical_more first [] (w ∷ b) x y h = absurd (omega arith)
identical_more first (v ∷ a) [] x y h = absurd (omega arith)
identical_more first (v ∷ a) (w ∷ b) x y h = identical_more (and_bit first (same_bit v w)) a b x y (omega arith)

map_more : (s : State) (first k : ℕ) → map s (count_from first (suc k)) ≡ map s (count_from first k) ++ s (first + k) ∷ []
map_more s first zero = ap (λ n. s n ∷ []) (omega arith)
map_more s first (suc k) =
    ap (λ bs. s first ∷ bs) (map_more s (suc first) k)
    ∙ ap (λ n. s first ∷ (map s (count_from (suc first) k) ++ s n ∷ [])) (let e : suc first + k ≡ first + suc k = omega arith in e)

both : (d t : Bool) → and_bit (of_bool (not d)) (of_bool t) ≡ of_bool (not (d || not t))
both true true = refl
both true false = refl
both false true = refl
both false false = refl

identical_is : (f g : State) (a b n : ℕ) → identical (map f (count_from a n)) (map g (count_from b n)) ≡ of_bool (not (differ_below (λ k. f (a + k)) (λ k. g (b + k)) n))
identical_is f g a b zero = refl
identical_is f g a b (suc n) =
    let xs : BitList = map f (count_from a n) in
    let ys : BitList = map g (count_from b n) in
    ap₂ (λ (p q : BitList). identical p q) (map_more f a n) (map_more g b n)
    ∙ identical_more One xs ys (f (a + n)) (g (b + n)) (length-read f a n ∙ sym (length-read g b n))
    ∙ ap (λ (v : Bit4). and_bit v (same_bit (f (a + n)) (g (b + n)))) (identical_is f g a b n)
    ∙ both (differ_below (λ k. f (a + k)) (λ k. g (b + k)) n) (same (f (a + n)) (g (b + n)))

one_is : (t : Bool) → not (is_one (of_bool (not t))) ≡ t
one_is true = refl
one_is false = refl

-- values of as many bits differ where some bit does
pub differ_is : (f g : State) (a b n : ℕ) → differ_below (λ k. f (a + k)) (λ k. g (b + k)) n ≡ not (is_one (identical (map f (count_from a n)) (map g (count_from b n))))
differ_is f g a b n = sym (ap (λ (v : Bit4). not (is_one v)) (identical_is f g a b n) ∙ one_is (differ_below (λ k. f (a + k)) (λ k. g (b + k)) n))

-- ---- the numbers of the signals that change

-- n, if so
abbrev pub only : Bool → ℕ → List ℕ
only t n = if t then n ∷ [] else []

changed_more : (m n : ℕ) (before now : List BitList) → n < length before → n < length now
    → changed_from m (take (suc n) before) (take (suc n) now) ≡ changed_from m (take n before) (take n now) ++ only (not (is_one (identical (get_or before n []) (get_or now n [])))) (m + n)
changed_more m n [] now h k = absurd (omega arith)
changed_more m n (b ∷ before) [] h k = absurd (omega arith)
changed_more m zero (b ∷ before) (v ∷ now) h k = first (is_one (identical b v))
  where
    first : (t : Bool) → (elim t [ true ↦ changed_from (suc m) (take 0 before) (take 0 now) | false ↦ m ∷ changed_from (suc m) (take 0 before) (take 0 now) ]) ≡ only (not t) (m + 0)
    first true = refl
    first false = ap (λ n. n ∷ []) (omega arith)
changed_more m (suc n) (b ∷ before) (v ∷ now) h k =
    behind (is_one (identical b v)) _ _ _
    (changed_more (suc m) n before now (omega arith) (omega arith)
    ∙ ap (λ (j : ℕ). changed_from (suc m) (take n before) (take n now) ++ only (not (is_one (identical (get_or before n []) (get_or now n [])))) j) (let e : suc m + n ≡ m + suc n = omega arith in e))
  where
    behind : (t : Bool) (xs ys zs : List ℕ) → xs ≡ ys ++ zs → (elim t [ true ↦ xs | false ↦ m ∷ xs ]) ≡ (elim t [ true ↦ ys | false ↦ m ∷ ys ]) ++ zs
    behind true xs ys zs e = e
    behind false xs ys zs e = ap (λ ns. m ∷ ns) e

-- of the first n signals all, if so told, or those that changed
abbrev pub places : Bool → List BitList → List BitList → ℕ → List ℕ
places all before now n = if all then count_from 0 n else changed_from 0 (take n before) (take n now)

places_more : (all t : Bool) (n : ℕ) (before now : List BitList) → n < length before → n < length now
    → t ≡ (all || not (is_one (identical (get_or before n []) (get_or now n []))))
    → places all before now (n + 1) ≡ places all before now n ++ only t n
places_more true t n before now h k e = count_from-more 0 n ∙ ap₂ (λ (j : ℕ) (u : Bool). count_from 0 n ++ only u j) (omega arith) (sym e)
places_more false t n before now h k e =
    let next : n + 1 ≡ suc n = omega arith in
    ap (λ (j : ℕ). changed_from 0 (take j before) (take j now)) next
    ∙ changed_more 0 n before now h k
    ∙ ap₂ (λ (j : ℕ) (u : Bool). changed_from 0 (take n before) (take n now) ++ only u j) (omega arith) (sym e)

line_only : (numbers : List ℕ) (values : List BitList) (t : Bool) (n : ℕ) → value_lines numbers values (only t n) ≡ (if t then value_line (get_or numbers n 0) (get_or values n []) else [])
line_only numbers values true n = append-nil (value_line (get_or numbers n 0) (get_or values n []))
line_only numbers values false n = refl

-- and their lines
pub lines_more : (numbers : List ℕ) (all t : Bool) (n : ℕ) (before now : List BitList) → n < length before → n < length now
    → t ≡ (all || not (is_one (identical (get_or before n []) (get_or now n []))))
    → value_lines numbers now (places all before now (n + 1)) ≡ value_lines numbers now (places all before now n) ++ (if t then value_line (get_or numbers n 0) (get_or now n []) else [])
lines_more numbers all t n before now h k e =
    ap (value_lines numbers now) (places_more all t n before now h k e)
    ∙ flat_map-append (λ (j : ℕ). value_line (get_or numbers j 0) (get_or now j [])) (places all before now n) (only t n)
    ∙ ap (λ ls. value_lines numbers now (places all before now n) ++ ls) (line_only numbers now t n)

-- at the end
pub places_end : (all : Bool) (before now : List BitList) (n count : ℕ) → n ≡ count → length before ≤ n → length now ≤ n → places all before now n ≡ (if all then count_from 0 count else changed_from 0 before now)
places_end true before now n count e h k = ap (count_from 0) e
places_end false before now n count e h k = ap₂ (changed_from 0) (take_all n before h) (take_all n now k)
