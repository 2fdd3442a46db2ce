-- The names of outputs.
use Rattle.std.proofs.Common.{◌≡◌, ℕ, Bool, ◌&&◌, List, [], ◌∷◌, map, refl, ap}
use Rattle.std.specs.Prelude.{◌==◌, nat_eq}
use Rattle.std.specs.Cmp.Lexicographic.{pointwise}
use Rattle.vs_design.specs.Clocks.{same_name}
use Rattle.vs_grammar.specs.Trees.{items_list}
use Rattle.vs_ast.specs.declared.items.Item.{Item}
use Rattle.vs_ast.specs.Views as view

-- equality of names is that of their bytes
pub same_is : (xs ys : List ℕ) → pointwise nat_eq xs ys ≡ same_name xs ys
same_is [] [] = refl
same_is [] (y ∷ ys) = refl
same_is (x ∷ xs) [] = refl
same_is (x ∷ xs) (y ∷ ys) = ap {B = Bool} (λ t. (x == y) && t) (same_is xs ys)

-- the items of a body, as a list
pub items_are : (is : List Item) → items_list (view.items is) ≡ map view.item is
items_are [] = refl
items_are (i ∷ is) = ap (λ r. view.item i ∷ r) (items_are is)
