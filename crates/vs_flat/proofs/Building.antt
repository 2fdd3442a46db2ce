-- A list that grows by what is made of it so far.
use Rattle.std.proofs.Common.{◌≡◌, ℕ, zero, suc, ◌+◌, ◌<◌, List, [], ◌∷◌, ◌++◌, length, get_or, refl, sym, ap, ◌∙◌, arith, length-append}
use Rattle.std.specs.Prelude.{Some, slice_get, fold}
use Rattle.std.proofs.Math.ListN.{get_or-append}
use Rattle.std.proofs.Math.Seq.{get_or-append_seam}
use Rattle.std.proofs.lemmas.List.Sums.{fold-append}
use Rattle.vs_flat.proofs.Agreeing.{EqualBelow}

-- one more at the end
abbrev pub grown : {T X : Type 0} → (List T → X → T) → List T → X → List T
grown make ts x = ts ++ make ts x ∷ []

abbrev pub built : {T X : Type 0} → (List T → X → T) → List T → List X → List T
built make ts xs = fold (grown make) ts xs

pub some_is : {A : Type 0} (x y : A) → Some x ≡ Some y → x ≡ y
some_is x y e = cc

pub length-grown : {T X : Type 0} (make : List T → X → T) (ts : List T) (x : X) → length (grown make ts x) ≡ suc (length ts)
length-grown make ts x = omega (arith, length-append ts (make ts x ∷ []))

pub length-built : {T X : Type 0} (make : List T → X → T) (ts : List T) (xs : List X) → length (built make ts xs) ≡ length ts + length xs
length-built make ts [] = omega arith
length-built make ts (x ∷ xs) = omega (arith, length-built make (grown make ts x) xs, length-grown make ts x)

-- what was there stays
pub built_keeps : {T X : Type 0} (make : List T → X → T) (d : T) (ts : List T) (xs : List X) (k : ℕ) → k < length ts → get_or (built make ts xs) k d ≡ get_or ts k d
built_keeps make d ts [] k h = refl
built_keeps make d ts (x ∷ xs) k h = built_keeps make d (grown make ts x) xs k (omega (arith, length-grown make ts x)) ∙ get_or-append ts (make ts x ∷ []) d k h

pub built-append : {T X : Type 0} (make : List T → X → T) (ts : List T) (xs : List X) (x : X) → built make ts (xs ++ x ∷ []) ≡ built make ts xs ++ make (built make ts xs) x ∷ []
built-append make ts xs x = fold-append (grown make) ts xs (x ∷ [])

-- what is made of each element depends on what was made before it alone
abbrev pub IsLocal : {T X : Type 0} → (List T → X → T) → T → ℕ → List X → Type 0
IsLocal {T} {X} make d first xs = (i : ℕ) (x : X) → slice_get xs i ≡ Some x → (us vs : List T) → EqualBelow (first + i) (λ k. get_or us k d) (λ k. get_or vs k d) → make us x ≡ make vs x

local_rest : {T X : Type 0} (make : List T → X → T) (d : T) (first : ℕ) (x : X) (xs : List X) → IsLocal make d first (x ∷ xs) → IsLocal make d (suc first) xs
local_rest make d first x xs h i y e us vs same = h (suc i) y e us vs (λ k lt. same k (omega arith))

-- so each is what is made of the whole
pub built_at : {T X : Type 0} (make : List T → X → T) (d : T) (first : ℕ) (ts : List T) (xs : List X) → length ts ≡ first → IsLocal make d first xs
    → (i : ℕ) (x : X) → slice_get xs i ≡ Some x → get_or (built make ts xs) (first + i) d ≡ make (built make ts xs) x
built_at make d first ts [] e h i x at = cc
built_at make d first ts (y ∷ ys) e h zero x at =
    let is : y ≡ x = some_is y x at in
    let whole = built make ts (y ∷ ys) in
    let kept : get_or whole (length ts) d ≡ get_or (grown make ts y) (length ts) d = built_keeps make d (grown make ts y) ys (length ts) (omega (arith, length-grown make ts y)) in
    let here : make ts y ≡ make whole y = h zero y refl ts whole (λ k lt. sym (built_keeps make d ts (y ∷ ys) k (omega arith))) in
    ap (λ n. get_or whole n d) (omega arith) ∙ kept ∙ get_or-append_seam ts (make ts y) [] d ∙ here ∙ ap (make whole) is
built_at make d first ts (y ∷ ys) e h (suc i) x at =
    let n : first + suc i ≡ suc first + i = omega arith in
    ap (λ m. get_or (built make ts (y ∷ ys)) m d) n ∙ built_at make d (suc first) (grown make ts y) ys (length-grown make ts y ∙ ap suc e) (local_rest make d first y ys h) i x at

-- two ways of making that agree on these elements
pub built_agrees : {T X : Type 0} (make other : List T → X → T) (ts : List T) (xs : List X) → ((i : ℕ) (x : X) → slice_get xs i ≡ Some x → (us : List T) → make us x ≡ other us x) → built make ts xs ≡ built other ts xs
built_agrees make other ts [] h = refl
built_agrees make other ts (x ∷ xs) h = ap (λ t. built make (ts ++ t ∷ []) xs) (h zero x refl ts) ∙ built_agrees make other (grown other ts x) xs (λ i y e us. h (suc i) y e us)
