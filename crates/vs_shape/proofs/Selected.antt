-- Constant selects.
use Rattle.std.proofs.Common.{◌≡◌, ℕ, suc, ◌-◌, ◌≤◌, Bool, true, false, ◌&&◌, ◌==◌, length, refl, sym, ap, ◌∙◌, arith}
use Rattle.std.proofs.lemmas.Bool.{eqb-true, cond_both}
use Rattle.vs_four.specs.declared.Bit4.TheVariants.{X}
use Rattle.vs_four.specs.declared.Range.{Range}
use Rattle.vs_four.specs.Logic.{BitList}
use Rattle.vs_four.specs.Lengths.{extend}
use Rattle.vs_four.specs.Selects.{Part, select, is_descending, range_length}
use Rattle.vs_design.specs.Expressions.{Source, OfSignal, OfConstant, Expression, Select, At, sign}
use Rattle.vs_design.specs.Fits.{fits, fits_64}
use Rattle.vs_design.specs.Values.{value, constant_value}
use Rattle.vs_flat.specs.declared.expressions.Node.{Node}
use Rattle.vs_flat.specs.Arena.{Arena}
use Rattle.vs_shape.specs.Constants.{IsValued}
use Rattle.vs_shape.specs.Nodes.{tree_of, place_of, tree_of_node}
use Rattle.vs_shape.proofs.Names.{and_both}

one≤range_length : (r : Range) → 1 ≤ range_length r
one≤range_length r = cond_both (is_descending r) (suc (r.left - r.right)) (suc (r.right - r.left)) (λ n. 1 ≤ n) (λ _. omega arith) (λ _. omega arith)

pub value_of_select : (s : Source) (part : Part) (e : Expression) (w : ℕ) (signed index_signed : Bool) (bits index taken v : BitList) → IsValued (Select s part e) → ((bs : BitList) → s ≡ OfConstant bs → 1 ≤ length bs → bits ≡ bs)
    → index ≡ constant_value e → index_signed ≡ sign e → taken ≡ select part index_signed bits index → v ≡ extend w signed taken → v ≡ value (Select s part e) w signed (λ b. X)
value_of_select (OfSignal signal) part e w signed index_signed bits index taken v valued h index_is signed_is taken_is is = absurd (never valued.constant)
  where
    never : false ≡ true → ⊥
    never h = cc
value_of_select (OfConstant bs) part e w signed index_signed bits index taken v valued h index_is signed_is taken_is is =
    let whole = and_both (fits_64 part.width && (range_length part.range == length bs)) (fits e) valued.fits in
    let range = eqb-true (range_length part.range) (length bs) (and_both (fits_64 part.width) (range_length part.range == length bs) whole.0).1 in
    let found : bits ≡ bs = h bs refl (omega (arith, range, one≤range_length part.range)) in
    is ∙ ap (extend w signed) (taken_is ∙ ap (λ i. select part index_signed bits i) index_is ∙ ap (λ b. select part b bits (constant_value e)) signed_is ∙ ap (λ x. select part (sign e) x (constant_value e)) found)

-- the value of a node is that of its tree
pub value_of_node : (a kept : Arena) (e w : ℕ) (signed : Bool) (n m : Node) (v : BitList) → kept ≡ a → tree_of kept e ≡ At (place_of kept e) (tree_of_node kept n) → n ≡ m → v ≡ value (tree_of_node a m) w signed (λ b. X)
    → v ≡ value (tree_of a e) w signed (λ b. X)
value_of_node a kept e w signed n m v same tree is value_is =
    let whole : tree_of a e ≡ At (place_of a e) (tree_of_node a m) = ap (λ x. tree_of x e) (sym same) ∙ tree ∙ ap (λ x. At (place_of x e) (tree_of_node x n)) same ∙ ap (λ y. At (place_of a e) (tree_of_node a y)) is in
    value_is ∙ ap (λ x. value x w signed (λ b. X)) (sym whole)
