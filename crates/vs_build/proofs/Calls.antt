-- Calls of functions (IEEE 1364-2005, 10.4.3).
use Rattle.std.proofs.Common.{◌≡◌, ℕ, zero, suc, ◌+◌, ◌-◌, ◌<◌, Bool, true, false, ◌&&◌, nat_lt, List, [], ◌∷◌, ◌++◌, length, map, take, drop, Option, Some, None, Result, OnOk, slice_get, refl, sym, ap, ◌∙◌, subst, arith}
use Rattle.std.specs.Prelude.{option_map}
use Rattle.std.proofs.lemmas.Bool.{lt-ltb}
use Rattle.std.proofs.lemmas.List.{length-map}
use Rattle.std.proofs.lemmas.Option.{slice_get-map, slice_get_within}
use Rattle.vs_design.specs.Expressions as E
use Rattle.vs_design.specs.Statements.{Function, Statement}
use Rattle.vs_design.specs.Designs.{Design}
use Rattle.vs_design.specs.Values.{count_from}
use Rattle.vs_design.specs.Rules.{mixed_in}
use Rattle.vs_design.specs.Elaborated.{is_nil, inside, are_as_many, is_formed, are_formed, is_formed_header, is_formed_statement, is_formed_function}
use Rattle.vs_flat.specs.declared.expressions.Node.TheVariants as N
use Rattle.vs_flat.specs.Arena.{Arena, placed}
use Rattle.vs_flat.specs.Named.{all_below}
use Rattle.vs_flat.specs.Trees.{tree_at, placed_tree}
use Rattle.vs_flat.specs.DesignOf.{arena_names, arena_trees, callee_of, design_of}
use Rattle.vs_flat.proofs.Agreeing.{and_both, and_true}
use Rattle.vs_flat.proofs.Earlier.{all_at}
use Rattle.vs_build.specs.Drafts.{Root, Draft, home_in, most_levels, EndsWith, AddsExpression, AddsParts}
use Rattle.vs_build.specs.Growth.{open_header, current, Growing, IsGrowing, draft_of, draft}
use Rattle.vs_build.proofs.Steps.{ends_enough, parts_are, levels_are, used_below, AreFormed, used_formed, IsStep, IsAdded, step_adds}
use Rattle.vs_build.proofs.NodeKinds.{ends_in, few_used}
use Rattle.vs_build.proofs.Copies.{trees_of, split_at, used_length}

-- ---- the function of a number

count_get : (first n k : ℕ) → k < n → slice_get (count_from first n) k ≡ Some (first + k)
count_get first zero k h = absurd (omega (arith, h))
count_get first (suc n) zero h = ap Some (omega arith)
count_get first (suc n) (suc k) h = count_get (suc first) n k (omega (arith, h)) ∙ ap Some (omega arith)

count_length : (first n : ℕ) → length (count_from first n) ≡ n
count_length first zero = refl
count_length first (suc n) = ap suc (count_length (suc first) n)

pub function_there : (a : Arena) (k : ℕ) (g : Function) → slice_get (design_of a).functions k ≡ Some g → k < length a.bodies
function_there a k g h =
    let l = slice_get_within (design_of a).functions k g h in
    omega (arith, l, length-map (count_from 0 (length a.bodies)) (callee_of a (tree_at (arena_trees a))), count_length 0 (length a.bodies))

pub callee_is : (a : Arena) (k : ℕ) (g : Function) → slice_get (design_of a).functions k ≡ Some g → callee_of a (tree_at (arena_trees a)) k ≡ g
callee_is a k g h = same (sym found ∙ h)
  where
    found : slice_get (design_of a).functions k ≡ Some (callee_of a (tree_at (arena_trees a)) k)
    found =
        slice_get-map (callee_of a (tree_at (arena_trees a))) (count_from 0 (length a.bodies)) k
        ∙ ap (option_map (callee_of a (tree_at (arena_trees a)))) (count_get 0 (length a.bodies) k (function_there a k g h) ∙ ap Some (omega arith))

    same : {x y : Function} → Some x ≡ Some y → x ≡ y
    same e = cc

-- ---- it is formed, wherever it is called

header_at_home : (d : Design) (o : Option E.Header) (h : E.Header) → is_formed_header d h ≡ true → is_formed_header (home_in d o) h ≡ true
header_at_home d None h k = k
header_at_home d (Some l) h k = k

statement_at_home : (d : Design) (o : Option E.Header) (h : E.Header) (s : Statement) → is_formed_statement (inside d h) s ≡ true → is_formed_statement (inside (home_in d o) h) s ≡ true
statement_at_home d None h s k = k
statement_at_home d (Some l) h s k = k

as_many : (ts : List E.Expression) (inputs : List E.Signal) → length inputs ≡ length ts → are_as_many (E.items_of ts) inputs ≡ true
as_many [] [] h = refl
as_many [] (i ∷ is) h = absurd (omega (arith, h))
as_many (t ∷ ts) [] h = absurd (omega (arith, h))
as_many (t ∷ ts) (i ∷ is) h = as_many ts is (omega (arith, h))

arguments_formed : (a : Arena) (ns : List ℕ) → AreFormed a ns → are_formed (current a) (E.items_of (map (tree_at (arena_trees a)) ns)) ≡ true
arguments_formed a [] h = refl
arguments_formed a (n ∷ ns) h = and_true (is_formed (current a) (tree_at (arena_trees a) n)) (are_formed (current a) (E.items_of (map (tree_at (arena_trees a)) ns))) h.0 (arguments_formed a ns h.1)

call_formed : (a : Arena) (rs bs : List ℕ) (k : ℕ) (g : Function) (ns : List ℕ) → IsGrowing a rs bs → slice_get (design_of a).functions k ≡ Some g → length g.header.inputs ≡ length ns → AreFormed a ns
    → is_formed (current a) (E.Call g.header g.statement (E.items_of (map (tree_at (arena_trees a)) ns))) ≡ true
call_formed a rs bs k g ns i h many here =
    let d = design_of a in
    let whole = all_at (is_formed_function d) d.functions k g i.functions h in
    let p = and_both (is_formed_header d g.header && is_nil (mixed_in false g.statement)) (is_formed_statement (inside d g.header) g.statement) whole in
    let q = and_both (is_formed_header d g.header) (is_nil (mixed_in false g.statement)) p.0 in
    let items = E.items_of (map (tree_at (arena_trees a)) ns) in
    five (is_formed_header (current a) g.header) (is_nil (mixed_in false g.statement)) (is_formed_statement (inside (current a) g.header) g.statement) (are_as_many items g.header.inputs) (are_formed (current a) items)
    (header_at_home d (open_header a) g.header q.0) q.1 (statement_at_home d (open_header a) g.header g.statement p.1)
    (as_many (map (tree_at (arena_trees a)) ns) g.header.inputs (many ∙ sym (length-map ns (tree_at (arena_trees a))))) (arguments_formed a ns here)
  where
    five : (p q r s t : Bool) → p ≡ true → q ≡ true → r ≡ true → s ≡ true → t ≡ true → (p && q && r && s && t) ≡ true
    five true true true true true h k l m n = refl
    five true true true true false h k l m n = cc
    five true true true false t h k l m n = cc
    five true true false s t h k l m n = cc
    five true false r s t h k l m n = cc
    five false q r s t h k l m n = cc

-- ---- the step

call_tree : (a : Arena) (k : ℕ) (g : Function) (ns : List ℕ) (at : ℕ) → slice_get (design_of a).functions k ≡ Some g
    → placed_tree (arena_names a) (tree_at (arena_trees a)) (placed (N.Call k ns) at) ≡ E.At at (E.Call g.header g.statement (E.items_of (map (tree_at (arena_trees a)) ns)))
call_tree a k g ns at h = ap (λ (f : Function). E.At at (E.Call f.header f.statement (E.items_of (map (tree_at (arena_trees a)) ns)))) (callee_is a k g h)

pub call_step : (a : Arena) (rs rest used bs : List ℕ) (k : ℕ) (g : Function) (at : ℕ) → IsGrowing a rs bs → rs ≡ rest ++ used → slice_get (design_of a).functions k ≡ Some g → length g.header.inputs ≡ length used → EndsWith (length used) (draft_of a rs bs)
    → IsStep a rs bs rest used (N.Call k used) at
call_step a rs rest used bs k g at i e h many ends = record {
  growing = i;
  is = e;
  names = λ n. refl;
  covers =
      and_true (true && all_below (length a.nodes) used) (nat_lt k (length a.bodies)) (and_true true (all_below (length a.nodes) used) refl (used_below a rs rest used bs i e)) (lt-ltb k (length a.bodies) (function_there a k g h));
  copies = refl;
  formed = ap (is_formed (current a)) (call_tree a k g used at h) ∙ call_formed a rs bs k g used i h many (used_formed a rs rest used bs i e);
  few = omega (arith, few_used (length used) a rs rest used bs e refl ends);
}

pub call_adds : {U F : Type 0} (r : Result U F) (a b : Arena) (rs after rest used bs : List ℕ) (k : ℕ) (g : Function) (at : ℕ) (s : Draft) (ts : List E.Expression) (m : ℕ)
    → IsStep a rs bs rest used (N.Call k used) at → IsAdded r a b rs after rest (N.Call k used) at → slice_get (design_of a).functions k ≡ Some g → AddsParts s (draft_of a rs bs) ts m → length ts ≡ length used
    → OnOk r (AddsExpression s (draft_of b after bs) (E.At at (E.Call g.header g.statement (E.items_of ts))) (1 + m))
call_adds r a b rs after rest used bs k g at s ts m p d f h l =
    let q = parts_are a rest used bs s h.roots (ap (λ xs. draft_of a xs bs) (sym p.is) ∙ h.is) (sym l ∙ ap length (sym h.are) ∙ length-map h.roots (λ (r : Root). r.tree)) in
    let trees : map (tree_at (arena_trees a)) used ≡ ts = sym (trees_of a used) ∙ ap (map (λ (r : Root). r.tree)) q.0 ∙ h.are in
    step_adds r a b rs after bs rest used (N.Call k used) at s (E.At at (E.Call g.header g.statement (E.items_of ts))) m p d q.1
    (call_tree a k g used at f ∙ ap (λ xs. E.At at (E.Call g.header g.statement (E.items_of xs))) trees) (omega (arith, levels_are a used, ap most_levels q.0, h.few))

-- ---- found at the end of the stack

pub call_found : (a : Arena) (rs bs : List ℕ) (v : Growing) (count k : ℕ) (g : Function) (at : ℕ) (ns : List ℕ) → ns ≡ drop (length rs - count) rs → IsGrowing a rs bs → (let w : Growing = record { arena = a; roots = rs; bodies = bs } in w) ≡ v
    → slice_get (draft v).design.functions k ≡ Some g → length g.header.inputs ≡ count → EndsWith count (draft v) → IsStep a rs bs (take (length rs - count) rs) ns (N.Call k ns) at
call_found a rs bs v count k g at ns e i view f many h =
    let ends = ends_in count a rs bs v view h in
    let l = ap length e ∙ used_length rs count (ends_enough count a rs bs ends) in
    call_step a rs (take (length rs - count) rs) ns bs k g at i (split_at rs (length rs - count) ∙ ap (λ xs. take (length rs - count) rs ++ xs) (sym e)) (subst (λ (w : Growing). slice_get (draft w).design.functions k ≡ Some g) (sym view) f)
    (many ∙ sym l) (subst (λ n. EndsWith n (draft_of a rs bs)) (sym l) ends)

pub call_added : {U F : Type 0} (r : Result U F) (a b : Arena) (rs after bs : List ℕ) (v : Growing) (count k : ℕ) (g : Function) (at : ℕ) (ns : List ℕ) (s : Draft) (ts : List E.Expression) (m : ℕ) → ns ≡ drop (length rs - count) rs
    → (let w : Growing = record { arena = a; roots = rs; bodies = bs } in w) ≡ v → EndsWith count (draft v) → IsStep a rs bs (take (length rs - count) rs) ns (N.Call k ns) at
    → IsAdded r a b rs after (take (length rs - count) rs) (N.Call k ns) at → slice_get (draft v).design.functions k ≡ Some g → AddsParts s (draft v) ts m → length ts ≡ count
    → OnOk r (AddsExpression s (draft_of b after bs) (E.At at (E.Call g.header g.statement (E.items_of ts))) (1 + m))
call_added r a b rs after bs v count k g at ns s ts m e view h p d f parts l =
    let n = ap length e ∙ used_length rs count (ends_enough count a rs bs (ends_in count a rs bs v view h)) in
    call_adds r a b rs after (take (length rs - count) rs) ns bs k g at s ts m p d (subst (λ (w : Growing). slice_get (draft w).design.functions k ≡ Some g) (sym view) f) (subst (λ (w : Growing). AddsParts s (draft w) ts m) (sym view) parts) (l ∙ sym n)
