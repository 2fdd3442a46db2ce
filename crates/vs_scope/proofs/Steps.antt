-- Steps of loops over a list.
use Rattle.std.proofs.Common.{◌≡◌, ℕ, suc, ◌<◌, ◌≤◌, List, [], ◌∷◌, ◌++◌, length, get_or, drop, map, flat_map, ◌+◌, refl, sym, ap, ◌∙◌, drop-cons, append_assoc, add-one}
use Rattle.std.proofs.Math.ListN.{drop_of_length-le}
use Rattle.vs_grammar.specs.Trees.{items_list}
use Rattle.vs_ast.specs.Views as view
use Rattle.vs_ast.specs.declared.items.Item.{Item}

-- the elements from a place on
pub from_place : {B : Type 0} (xs : List B) (i : ℕ) (x : B) → i < length xs → x ≡ get_or xs i x → drop i xs ≡ x ∷ drop (suc i) xs
from_place xs i x h e = drop-cons xs i x h ∙ ap (λ y. y ∷ drop (suc i) xs) (sym e)

pub none_left : {B : Type 0} (xs : List B) (i : ℕ) → length xs ≤ i → drop i xs ≡ []
none_left xs i h = drop_of_length-le xs h

pub append_none : {B : Type 0} (xs : List B) → xs ++ [] ≡ xs
append_none [] = refl
append_none (x ∷ xs) = ap (λ r. x ∷ r) (append_none xs)

pub items_are : (is : List Item) → items_list (view.items is) ≡ map view.item is
items_are [] = refl
items_are (i ∷ is) = ap (λ r. view.item i ∷ r) (items_are is)

-- what the elements from a place on give, when one more has been taken
pub flat_more : {A B C : Type 0} (give : B → List C) (view : A → B) (xs : List A) (i : ℕ) (x : A) (before after whole : List C) → i < length xs → x ≡ get_or xs i x → after ≡ before ++ give (view x)
    → before ++ flat_map give (map view (drop i xs)) ≡ whole → after ++ flat_map give (map view (drop (i + 1) xs)) ≡ whole
flat_more give view xs i x before after whole h e k so_far =
    let rest = flat_map give (map view (drop (i + 1) xs)) in
    ap (λ y. y ++ rest) k ∙ append_assoc before (give (view x)) rest
    ∙ ap (λ y. before ++ (give (view x) ++ flat_map give (map view (drop y xs)))) (add-one i)
    ∙ ap (λ y. before ++ flat_map give (map view y)) (sym (from_place xs i x h e)) ∙ so_far

pub flat_end : {A B C : Type 0} (give : B → List C) (view : A → B) (xs : List A) (i : ℕ) (before whole : List C) → length xs ≤ i → before ++ flat_map give (map view (drop i xs)) ≡ whole → before ≡ whole
flat_end give view xs i before whole h so_far = sym (append_none before) ∙ ap (λ y. before ++ flat_map give (map view y)) (sym (none_left xs i h)) ∙ so_far
