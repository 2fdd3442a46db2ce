-- The parts that targets are made of.
use Rattle.std.proofs.Common.{◌≡◌, ℕ, zero, suc, ◌+◌, ◌<◌, Bool, true, false, ◌==◌, if◌then◌else◌, List, [], ◌∷◌, ◌++◌, map, length, take, slice_index, Option, Some, None, IsSome, sym, ap, ◌∙◌, subst, refl, arith, append-nil, append_assoc, ◌≤◌}
use Rattle.std.specs.Prelude.{unwrap_or}
use Rattle.std.specs.List.{All, flat_map}
use Rattle.std.proofs.lemmas.List.{map-append, take_more}
use Rattle.std.proofs.lemmas.List.Concat.{flat_map-append}
use Rattle.std.proofs.lemmas.List.Elements.{All-nil, All-cons, All-append, All-head, All-tail}
use Rattle.vs_design.specs.Expressions as E
use Rattle.vs_design.specs.Statements.{Target, Whole}
use Rattle.vs_flat.specs.Arena.{Arena}
use Rattle.vs_flat.specs.Targets.{target_of, both_of}
use Rattle.vs_flat.specs.DesignOf.{arena_trees}
use Rattle.vs_flat.specs.Trees.{joined, no_signal, target_tree, tree_at, first_copy, copy_count}
use Rattle.vs_lower.specs.declared.leaves.Leaf.{Leaf}
use Rattle.vs_shape.specs.Nodes.{EachBelow}
use Rattle.vs_values.specs.Templates.{Templated}
use Rattle.vs_lower.specs.Leaves.{leaves_of, leaf_target, IsInside, AddsLeaves}

-- ---- a concatenation that is a target

both_some : (x y : Option Target) → IsSome (both_of x y) → IsSome x × IsSome y
both_some (Some h) (Some l) s = (s, s)
both_some (Some h) None s = cc
both_some None y s = cc

pub some_each : (es : List E.Expression) → IsSome (target_of (joined es)) → All (λ e. IsSome (target_of e)) es
some_each [] s = cc
some_each (e ∷ []) s = All-cons (λ e. IsSome (target_of e)) e [] s (All-nil (λ e. IsSome (target_of e)))
some_each (e ∷ next ∷ es) s =
    let p = both_some (target_of e) (target_of (joined (next ∷ es))) s in
    All-cons (λ e. IsSome (target_of e)) e (next ∷ es) p.0 (some_each (next ∷ es) p.1)

leaves_both : (x y : Option Target) → IsSome (both_of x y)
    → leaves_of (unwrap_or (both_of x y) (Whole no_signal)) ≡ leaves_of (unwrap_or x (Whole no_signal)) ++ leaves_of (unwrap_or y (Whole no_signal))
leaves_both (Some h) (Some l) s = refl
leaves_both (Some h) None s = cc
leaves_both None y s = cc

pub leaves_joined : (es : List E.Expression) → IsSome (target_of (joined es)) → leaves_of (target_tree (joined es)) ≡ flat_map (λ e. leaves_of (target_tree e)) es
leaves_joined [] s = cc
leaves_joined (e ∷ []) s = sym (append-nil (leaves_of (target_tree e)))
leaves_joined (e ∷ next ∷ es) s =
    let p = both_some (target_of e) (target_of (joined (next ∷ es))) s in
    leaves_both (target_of e) (target_of (joined (next ∷ es))) s ∙ ap (λ ls. leaves_of (target_tree e) ++ ls) (leaves_joined (next ∷ es) p.1)

-- one copy
pub one_copy : (count : ℕ) (e : E.Expression) → IsSome (target_of (E.Repeat count e)) → (IsSome (target_of e)) × (target_tree (E.Repeat count e) ≡ target_tree e)
one_copy count e s = by (count == 1) refl s
  where
    by : (b : Bool) → (count == 1) ≡ b → IsSome (if b then target_of e else None) → (IsSome (target_of e)) × (target_tree (E.Repeat count e) ≡ target_tree e)
    by true h k = (k, ap (λ (b : Bool). unwrap_or (if b then target_of e else None) (Whole no_signal)) h)
    by false h k = cc

-- ---- parts behind parts

pub adds_none : (known : Templated) (old : List Leaf) → AddsLeaves known old old []
adds_none known old = record { leaves = []; is = sym (append-nil old); are = refl; inside = All-nil (IsInside known) }

pub adds_leaves : (known : Templated) (old one two : List Leaf) (xs ys : List Target) → AddsLeaves known old one xs → AddsLeaves known one two ys → AddsLeaves known old two (xs ++ ys)
adds_leaves known old one two xs ys p q =
    let g = leaf_target known.arena in
    record {
      leaves = p.leaves ++ q.leaves;
      is = q.is ∙ ap (λ (ls : List Leaf). ls ++ q.leaves) p.is ∙ append_assoc old p.leaves q.leaves;
      are = map-append g p.leaves q.leaves ∙ ap (λ (ts : List Target). ts ++ map g q.leaves) p.are ∙ ap (λ (ts : List Target). xs ++ ts) q.are;
      inside = All-append (IsInside known) p.leaves q.leaves p.inside q.inside;
    }

pub adds_leaf : (known : Templated) (old new : List Leaf) (leaf : Leaf) (target : Target) → new ≡ old ++ leaf ∷ [] → leaf_target known.arena leaf ≡ target → IsInside known leaf → AddsLeaves known old new (target ∷ [])
adds_leaf known old new leaf target is are inside =
    record { leaves = leaf ∷ []; is = is; are = ap (λ (t : Target). t ∷ []) are; inside = All-cons (IsInside known) leaf [] inside (All-nil (IsInside known)) }

-- one part more of a list of them
pub parts_more : (f : ℕ → List Target) (parts : List ℕ) (n : ℕ) → n < length parts → flat_map f (take n parts) ++ f (slice_index parts n) ≡ flat_map f (take (n + 1) parts)
parts_more f parts n l =
    ap (λ (ts : List Target). flat_map f (take n parts) ++ ts) (sym (append-nil (f (slice_index parts n))))
    ∙ sym (flat_map-append f (take n parts) (slice_index parts n ∷ []))
    ∙ ap (flat_map f) (sym (take_more parts n 0 l))

pub flat_map-map : (g : ℕ → E.Expression) (f : E.Expression → List Target) (ps : List ℕ) → flat_map f (map g ps) ≡ flat_map (λ p. f (g p)) ps
flat_map-map g f [] = refl
flat_map-map g f (p ∷ ps) = ap (λ ts. f (g p) ++ ts) (flat_map-map g f ps)

-- ---- the parts of a concatenation

-- a concatenation that is a target: its first copy's parts are earlier nodes, and are targets
pub record IsPartedTarget (a : Arena) (e : ℕ) (parts first : List ℕ) : Type 0 where
  pub each : (n : ℕ) → n < length first → (slice_index first n < e) × IsSome (target_of (tree_at (arena_trees a) (slice_index first n)))
  pub are : leaves_of (target_tree (tree_at (arena_trees a) e)) ≡ flat_map (λ p. leaves_of (target_tree (tree_at (arena_trees a) p))) first

pub parted : (a : Arena) (e place : ℕ) (parts : List ℕ) → tree_at (arena_trees a) e ≡ E.At place (E.Repeat (copy_count parts) (joined (map (tree_at (arena_trees a)) (first_copy parts)))) → EachBelow e parts
    → IsSome (target_of (tree_at (arena_trees a) e)) → (first : List ℕ) → first ≡ first_copy parts → first ≡ take (length first) parts → length first ≤ length parts → IsPartedTarget a e parts first
parted a e place parts is below some first copy prefix short =
    let t = tree_at (arena_trees a) in
    let one : E.Expression = joined (map t (first_copy parts)) in
    let here : IsSome (target_of (E.At place (E.Repeat (copy_count parts) one))) = subst (λ (x : E.Expression). IsSome (target_of x)) is some in
    let c = one_copy (copy_count parts) one here in
    let each = some_each (map t (first_copy parts)) c.0 in
    let targets = subst (λ (ps : List ℕ). (k : ℕ) → k < length ps → IsSome (target_of (tree_at (arena_trees a) (slice_index ps k)))) (sym copy) (λ k l. some_at (first_copy parts) k l each) in
    record {
      each = λ k l. (subst (λ (n : ℕ). n < e) (sym (ap (λ (ps : List ℕ). slice_index ps k) prefix ∙ taken (length first) k parts l)) (below k (omega (arith, l, short))), targets k l);
      are = ap (λ (x : E.Expression). leaves_of (target_tree x)) is ∙ ap leaves_of c.1 ∙ leaves_joined (map t (first_copy parts)) c.0 ∙ flat_map-map t (λ e. leaves_of (target_tree e)) (first_copy parts) ∙ ap (λ (ps : List ℕ). flat_map (λ p. leaves_of (target_tree (t p))) ps) (sym copy);
    }
  where
    some_at : (ps : List ℕ) (k : ℕ) → k < length ps → All (λ e. IsSome (target_of e)) (map (tree_at (arena_trees a)) ps) → IsSome (target_of (tree_at (arena_trees a) (slice_index ps k)))
    some_at [] k l h = absurd (omega arith)
    some_at (p ∷ ps) zero l h = All-head (λ e. IsSome (target_of e)) (tree_at (arena_trees a) p) (map (tree_at (arena_trees a)) ps) h
    some_at (p ∷ ps) (suc k) l h = some_at ps k (omega arith) (All-tail (λ e. IsSome (target_of e)) (tree_at (arena_trees a) p) (map (tree_at (arena_trees a)) ps) h)

    taken : (n k : ℕ) (xs : List ℕ) → k < n → slice_index (take n xs) k ≡ slice_index xs k
    taken zero k xs l = absurd (omega arith)
    taken (suc n) k [] l = refl
    taken (suc n) zero (x ∷ xs) l = refl
    taken (suc n) (suc k) (x ∷ xs) l = taken n k xs (omega arith)
