-- The parts of a concatenation, joined from either end.
use Rattle.std.proofs.Common.{◌≡◌, ◌≤◌, take, length, ℕ, ◌+◌, ◌*◌, Bool, true, false, ◌&&◌, List, [], ◌∷◌, map, min, refl, sym, ap, ◌∙◌, arith}
use Rattle.std.specs.Prelude.{fold}
use Rattle.std.proofs.lemmas.List.{take_all}
use Rattle.vs_design.specs.Expressions as E
use Rattle.vs_flat.specs.declared.expressions.Node.{Node}
use Rattle.vs_flat.specs.declared.expressions.Node.TheVariants as N
use Rattle.vs_flat.specs.Arena.{Arena}
use Rattle.vs_flat.specs.Trees.{no_expression, joined, first_copy, copy_count}
use Rattle.vs_shape.specs.Nodes.{tree_of, place_of, tree_of_node}
use Rattle.vs_shape.specs.declared.shape.Shape.{Shape}
use Rattle.vs_shape.specs.Shapes.{shape_of}

width_joined : (t : E.Expression) (ts : List E.Expression) → E.width (joined (t ∷ ts)) ≡ E.width t + E.width (joined ts)
width_joined t [] = omega arith
width_joined t (u ∷ ts) = refl

and_assoc : (a b c : Bool) → ((a && b) && c) ≡ (a && (b && c))
and_assoc true b c = refl
and_assoc false b c = refl

and_last : (a : Bool) → (a && true) ≡ a
and_last true = refl
and_last false = refl

constant_joined : (t : E.Expression) (ts : List E.Expression) → E.is_constant (joined (t ∷ ts)) ≡ (E.is_constant t && E.is_constant (joined ts))
constant_joined t [] = sym (and_last (E.is_constant t))
constant_joined t (u ∷ ts) = refl

width_chain : (e : E.Expression) (ts : List E.Expression) → E.width (fold E.Join e ts) ≡ E.width e + E.width (joined ts)
width_chain e [] = omega arith
width_chain e (t ∷ ts) = omega (arith, width_chain (E.Join e t) ts, width_joined t ts)

constant_chain : (e : E.Expression) (ts : List E.Expression) → E.is_constant (fold E.Join e ts) ≡ (E.is_constant e && E.is_constant (joined ts))
constant_chain e [] = sym (and_last (E.is_constant e))
constant_chain e (t ∷ ts) =
    constant_chain (E.Join e t) ts ∙ and_assoc (E.is_constant e) (E.is_constant t) (E.is_constant (joined ts)) ∙ ap (λ b. E.is_constant e && b) (sym (constant_joined t ts))

pub shape_chain : (count : ℕ) (ts : List E.Expression) → shape_of (E.Repeat count (fold E.Join no_expression ts)) ≡ shape_of (E.Repeat count (joined ts))
shape_chain count ts =
    let wide : E.width (fold E.Join no_expression ts) ≡ E.width (joined ts) = omega (arith, width_chain no_expression ts) in
    let constant : E.is_constant (fold E.Join no_expression ts) ≡ E.is_constant (joined ts) = constant_chain no_expression ts in
    ap (λ w. let s : Shape = record { width = min (count * w) 65; signed = E.sign (E.Repeat count no_expression); constant = E.is_constant (fold E.Join no_expression ts) } in s) wide
    ∙ ap (λ b. let s : Shape = record { width = min (count * E.width (joined ts)) 65; signed = E.sign (E.Repeat count no_expression); constant = b } in s) constant

-- a concatenation of the design
pub shape_of_join : (a kept : Arena) (e count i : ℕ) (n : Node) (parts slice again items : List ℕ) (all result : Shape) → kept ≡ a → tree_of kept e ≡ E.At (place_of kept e) (tree_of_node kept n) → n ≡ N.Join parts
    → items ≡ first_copy slice → slice ≡ parts → all ≡ shape_of (fold E.Join no_expression (map (tree_of a) (take i items))) → length items ≤ i → count ≡ copy_count again → again ≡ parts
    → ((f : E.Expression) → all ≡ shape_of f → result ≡ shape_of (E.Repeat count f)) → result ≡ shape_of (tree_of a e)
shape_of_join a kept e count i n parts slice again items all result same tree is copy sliced chain done counted sliced' repeated =
    let these : take i items ≡ first_copy parts = take_all i items done ∙ copy ∙ ap first_copy sliced in
    let chained : all ≡ shape_of (fold E.Join no_expression (map (tree_of a) (first_copy parts))) = chain ∙ ap (λ xs. shape_of (fold E.Join no_expression (map (tree_of a) xs))) these in
    let node : E.Expression = E.Repeat (copy_count parts) (joined (map (tree_of a) (first_copy parts))) in
    let tree' : tree_of a e ≡ E.At (place_of a e) node = ap (λ x. tree_of x e) (sym same) ∙ tree ∙ ap (λ x. E.At (place_of x e) (tree_of_node x n)) same ∙ ap (λ m. E.At (place_of a e) (tree_of_node a m)) is in
    repeated (fold E.Join no_expression (map (tree_of a) (first_copy parts))) chained
    ∙ ap (λ k. shape_of (E.Repeat k (fold E.Join no_expression (map (tree_of a) (first_copy parts))))) (counted ∙ ap copy_count sliced')
    ∙ shape_chain (copy_count parts) (map (tree_of a) (first_copy parts))
    ∙ sym (ap shape_of tree')
