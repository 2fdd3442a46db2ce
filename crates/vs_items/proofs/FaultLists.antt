-- The first fault of several lists, and facts of each of a list.
use Rattle.std.proofs.Common.{◌≡◌, ℕ, zero, suc, ◌+◌, ◌<◌, List, [], ◌∷◌, ◌++◌, length, get_or, take, map, flat_map, Option, sym, ap, ◌∙◌, subst, arith}
use Rattle.std.proofs.lemmas.List.{append-nil}
use Rattle.std.proofs.lemmas.Grind.{flat_map-append}
use Rattle.vs_grammar.specs.Shapes.{Each}
use Rattle.vs_const.specs.declared.faults.Fault.{Fault}
use Rattle.vs_const.specs.Faults.{least, better}
use Rattle.vs_const.proofs.Least.{least_append}
use Rattle.vs_items.proofs.Repeats.{one_more}

-- one list more
pub least_more : {A B : Type 0} (f : A → B) (g : B → List Fault) (xs : List A) (i : ℕ) (x : A) (a b both : Option Fault) → i < length xs → x ≡ get_or xs i x
    → both ≡ better a b → a ≡ least (flat_map g (map f (take i xs))) → b ≡ least (g (f x)) → both ≡ least (flat_map g (map f (take (i + 1) xs)))
least_more f g xs i x a b both h e is before own =
    is ∙ ap (λ z. better z b) before ∙ ap (better (least (flat_map g (map f (take i xs))))) own
    ∙ sym (least_append (flat_map g (map f (take i xs))) (g (f x)))
    ∙ ap (λ z. least (flat_map g (map f (take i xs)) ++ z)) (sym (append-nil (g (f x))))
    ∙ ap least (sym (flat_map-append g (map f (take i xs)) (f x ∷ [])))
    ∙ ap (λ z. least (flat_map g z)) (sym (one_more f xs i x h e))

each_get : {A B : Type 0} (P : B → Type 0) (f : A → B) (xs : List A) (i : ℕ) (d : A) → i < length xs → Each P (map f xs) → P (f (get_or xs i d))
each_get P f [] i d h all = absurd (let no : ⊥ = omega (arith, h) in no)
each_get P f (x ∷ xs) zero d h all = all.0
each_get P f (x ∷ xs) (suc i) d h all = each_get P f xs i d (omega (arith, h)) all.1

-- what holds of each holds of one
pub each_at : {A B : Type 0} (P : B → Type 0) (f : A → B) (xs : List A) (i : ℕ) (x : A) → i < length xs → x ≡ get_or xs i x → Each P (map f xs) → P (f x)
each_at P f xs i x h e all = subst (λ y. P (f y)) (sym e) (each_get P f xs i x h all)
