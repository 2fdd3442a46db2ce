-- Lists, one element after the other.
use Rattle.std.proofs.Common.{◌≡◌, ℕ, zero, suc, ◌+◌, ◌<◌, List, [], ◌∷◌, ◌++◌, length, get_or, take, map, sym, ap, ◌∙◌, subst, arith, add-one, take-suc}
use Rattle.std.proofs.lemmas.List.{map-append}
use Rattle.vs_grammar.specs.Shapes.{Each}

-- the elements before a place and the one there
pub one_more : {A B : Type 0} (f : A → B) (xs : List A) (i : ℕ) (x : A) → i < length xs → x ≡ get_or xs i x → map f (take (i + 1) xs) ≡ map f (take i xs) ++ f x ∷ []
one_more f xs i x h e =
    ap (λ n. map f (take n xs)) (add-one i) ∙ ap (map f) (take-suc xs i x h) ∙ map-append f (take i xs) (get_or xs i x ∷ []) ∙ ap (λ y. map f (take i xs) ++ f y ∷ []) (sym e)

each_get : {A B : Type 0} (P : B → Type 0) (f : A → B) (xs : List A) (i : ℕ) (d : A) → i < length xs → Each P (map f xs) → P (f (get_or xs i d))
each_get P f [] i d h all = absurd (let no : ⊥ = omega (arith, h) in no)
each_get P f (x ∷ xs) zero d h all = all.0
each_get P f (x ∷ xs) (suc i) d h all = each_get P f xs i d (omega (arith, h)) all.1

-- what holds of each holds of one
pub each_at : {A B : Type 0} (P : B → Type 0) (f : A → B) (xs : List A) (i : ℕ) (x : A) → i < length xs → x ≡ get_or xs i x → Each P (map f xs) → P (f x)
each_at P f xs i x h e all = subst (λ y. P (f y)) (sym e) (each_get P f xs i x h all)
