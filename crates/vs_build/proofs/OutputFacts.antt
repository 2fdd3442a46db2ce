-- Expressions that are connected to an output, as targets (IEEE 1364-2005, 12.3.9.2).
use Rattle.std.proofs.Common.{◌≡◌, ℕ, zero, suc, ◌+◌, ◌*◌, ◌<◌, ◌≤◌, true, false, List, [], ◌∷◌, ◌++◌, length, get_or, map, take, Option, Some, None, unwrap_or, Result, OnOk, refl, sym, ap, ◌∙◌, subst, arith}
use Rattle.std.proofs.Math.Seq.{take-suc, take-length}
use Rattle.std.proofs.lemmas.List.{map-append, length-map}
use denote.Param.Weighed.{most, at_most}
use Rattle.vs_design.specs.Expressions as E
use Rattle.vs_design.specs.Expressions.{Expression}
use Rattle.vs_design.specs.Statements.{Whole}
use Rattle.vs_design.specs.Designs.{Design, OutputPort, Continuous}
use Rattle.std.specs.Prelude.{is_some}
use Rattle.vs_grammar.specs.Trees as tree
use Rattle.vs_grammar.specs.Trees.{target_place}
use Rattle.vs_grammar.specs.Shapes.{IsTarget, ArePartsOfTarget, AreTargets}
use Rattle.vs_grammar.specs.Depths.{target_depth, targets_depth}
use Rattle.vs_ast.proofs.expressions.Expr.TheLaws.{the_size}
use Rattle.vs_ast.specs.declared.expressions.Expr.{Expr}
use Rattle.vs_ast.specs.Views.{expr, exprs}
use Rattle.vs_const.specs.Meanings.{Find}
use Rattle.vs_const.proofs.Formed.{both_nil}
use Rattle.vs_flat.specs.declared.processes.Port.TheVariants as P
use Rattle.vs_flat.specs.Targets.{place_of}
use Rattle.vs_flat.specs.Trees.{joined, target_tree}
use Rattle.vs_elaborated.specs.Targets.{typed_target, typed_targets, targeted, and_target, as_target, as_targets}
use Rattle.vs_build.specs.Drafts.{Draft, home, and_process, EndsInAssign, AddsExpression, AddsParts}
use Rattle.vs_build.specs.Writable.{target_expression, targets_expression, IsWritable}
use Rattle.vs_build.specs.Outputs.{output_of, outputs_of, output_expression, output_expressions, output_process, IsOutput, AreOutputs}
use Rattle.vs_build.proofs.Steps.{added_two}
use Rattle.vs_build.proofs.Lists.{parts_home}
use Rattle.vs_build.proofs.TargetFacts.{written, begins_there, concatenation_parts}

some_is : {A : Type 0} (x y : A) → Some x ≡ Some y → x ≡ y
some_is x y e = cc

pub brackets_output : (d : Design) (find : Find) (place : ℕ) (e : tree.Expr) → IsOutput d find (tree.Brackets place e) → IsOutput d find e
brackets_output d find place e o = record { is = o.is; fine = o.fine }

pub named_output : (d : Design) (find : Find) (name : tree.Name) (select : tree.Select) → IsOutput d find (tree.Named name select) → IsWritable d find false (tree.NamedTarget name select)
named_output d find name select o = o.fine

-- ---- the parts of a concatenation

both_are : (a : Option tree.Target) (b : Option tree.Targets) (ts : tree.Targets) → and_target a b ≡ Some ts → (a ≡ Some (unwrap_or a (tree.Targeted 0 tree.NoTarget))) × (b ≡ Some (unwrap_or b tree.NoTarget))
both_are None b ts e = cc
both_are (Some a) None ts e = cc
both_are (Some a) (Some b) ts e = (refl, refl)

outputs_are : (parts : tree.Exprs) (ts : tree.Targets) → as_targets parts ≡ Some ts → ts ≡ outputs_of parts
outputs_are tree.NoExpr ts e = sym (some_is tree.NoTarget ts e)
outputs_are (tree.AndExpr x rest) ts e =
    let p = both_are (as_target x) (as_targets rest) ts e in
    let first : and_target (as_target x) (as_targets rest) ≡ Some (tree.AndTarget (output_of x) (unwrap_or (as_targets rest) tree.NoTarget)) = ap (λ a. and_target a (as_targets rest)) p.0 ∙ ap (λ b. and_target (Some (output_of x)) b) p.1 in
    some_is ts (tree.AndTarget (output_of x) (unwrap_or (as_targets rest) tree.NoTarget)) (sym e ∙ first) ∙ ap (λ t. tree.AndTarget (output_of x) t) (outputs_are rest (unwrap_or (as_targets rest) tree.NoTarget) p.1)

pub record IsConcatenated (d : Design) (find : Find) (place : ℕ) (parts : tree.Exprs) : Type 0 where
  pub whole : output_of (tree.Concatenation place parts) ≡ tree.Targeted place (outputs_of parts)
  pub parts_are : AreOutputs d find parts

concatenated : (d : Design) (find : Find) (place : ℕ) (parts : tree.Exprs) (o : Option tree.Targets) → as_targets parts ≡ o → targeted place o ≡ Some (unwrap_or (targeted place o) (tree.Targeted 0 tree.NoTarget))
    → IsWritable d find false (unwrap_or (targeted place o) (tree.Targeted 0 tree.NoTarget)) → IsConcatenated d find place parts
concatenated d find place parts None e h w = cc
concatenated d find place parts (Some ts) e h w =
    let same = outputs_are parts ts e in
    record {
      whole = ap (λ o. unwrap_or (targeted place o) (tree.Targeted 0 tree.NoTarget)) e ∙ ap (tree.Targeted place) same;
      parts_are = record { is = e ∙ ap Some same; fine = concatenation_parts d find false place (outputs_of parts) (subst (λ t. IsWritable d find false (tree.Targeted place t)) same w) };
    }

pub concatenation_output : (d : Design) (find : Find) (place : ℕ) (parts : tree.Exprs) → IsOutput d find (tree.Concatenation place parts) → IsConcatenated d find place parts
concatenation_output d find place parts o = concatenated d find place parts (as_targets parts) refl o.is o.fine

pub some_part : (es : List Expr) (d : Design) (find : Find) → AreOutputs d find (exprs es) → 1 ≤ length es
some_part [] d find o = absurd o.fine.shaped
some_part (e ∷ es) d find o = omega arith

-- ---- each part

rest_shaped : (es : List Expr) (i : ℕ) (x : Expr) → AreTargets (outputs_of (exprs es)) → i < length es → IsTarget (output_of (expr (get_or es i x)))
rest_shaped [] i x s h = absurd (omega arith)
rest_shaped (e ∷ es) zero x s h = s.0
rest_shaped (e ∷ es) (suc i) x s h = rest_shaped es i x s.1 (omega arith)

shaped_at : (es : List Expr) (i : ℕ) (x : Expr) → ArePartsOfTarget (outputs_of (exprs es)) → i < length es → IsTarget (output_of (expr (get_or es i x)))
shaped_at [] i x s h = absurd s
shaped_at (e ∷ es) i x s h = rest_shaped (e ∷ es) i x s h

is_at : (es : List Expr) (i : ℕ) (x : Expr) (ts : tree.Targets) → as_targets (exprs es) ≡ Some ts → i < length es → as_target (expr (get_or es i x)) ≡ Some (output_of (expr (get_or es i x)))
is_at [] i x ts e h = absurd (omega arith)
is_at (a ∷ es) zero x ts e h = (both_are (as_target (expr a)) (as_targets (exprs es)) ts e).0
is_at (a ∷ es) (suc i) x ts e h = is_at es i x (unwrap_or (as_targets (exprs es)) tree.NoTarget) (both_are (as_target (expr a)) (as_targets (exprs es)) ts e).1 (omega arith)

clean_at : (find : Find) (es : List Expr) (i : ℕ) (x : Expr) → (typed_targets (outputs_of (exprs es)) find false).faults ≡ [] → i < length es → (typed_target (output_of (expr (get_or es i x))) find false).faults ≡ []
clean_at find [] i x h k = absurd (omega arith)
clean_at find (e ∷ []) zero x h k = h
clean_at find (e ∷ []) (suc i) x h k = absurd (omega arith)
clean_at find (e ∷ f ∷ es) zero x h k = (both_nil (typed_target (output_of (expr e)) find false).faults (typed_targets (outputs_of (exprs (f ∷ es))) find false).faults h).0
clean_at find (e ∷ f ∷ es) (suc i) x h k = clean_at find (f ∷ es) i x (both_nil (typed_target (output_of (expr e)) find false).faults (typed_targets (outputs_of (exprs (f ∷ es))) find false).faults h).1 (omega arith)

depth_at : (es : List Expr) (i : ℕ) (x : Expr) → i < length es → target_depth (output_of (expr (get_or es i x))) ≤ targets_depth (outputs_of (exprs es))
depth_at [] i x k = absurd (omega arith)
depth_at (e ∷ es) zero x k = omega arith
depth_at (e ∷ es) (suc i) x k = omega (arith, depth_at es i x (omega arith))

pub each_part : (d : Design) (find : Find) (es : List Expr) (i : ℕ) (x : Expr) → AreOutputs d find (exprs es) → i < length es → x ≡ get_or es i x → IsOutput d find (expr x)
each_part d find es i x o k e =
    subst (λ y. IsOutput d find (expr y)) (sym e)
    (record {
      is = is_at es i x (outputs_of (exprs es)) o.is k;
      fine = record { shaped = shaped_at es i x o.fine.shaped k; sound = o.fine.sound; numbered = o.fine.numbered; clean = clean_at find es i x o.fine.clean k; shallow = omega (arith, o.fine.shallow, depth_at es i x k) };
    })

pub part_levels : (es : List Expr) (i : ℕ) (x : Expr) → i < length es → x ≡ get_or es i x → target_depth (output_of (expr x)) ≤ targets_depth (outputs_of (exprs es))
part_levels es i x k e = omega (arith, depth_at es i x k, ap (λ y. target_depth (output_of (expr y))) e)

pub part_falls : (es : List Expr) (i : ℕ) (x : Expr) (t : ℕ) → i < length es → x ≡ get_or es i x → 2 * most the_size es + 1 ≡ t → 2 * the_size x + 0 < t
part_falls es i x t h k m =
    let b : the_size x ≤ most the_size es = subst (λ z. the_size z ≤ most the_size es) (sym k) (at_most the_size es i x h) in
    omega (arith, b, m)

pub part_after : (s v : Draft) (ts : List Expression) (m : ℕ) (find : Find) (e : tree.Expr) → AddsParts s v ts m → IsOutput (home s) find e → IsOutput (home v) find e
part_after s v ts m find e h b = subst (λ d. IsOutput d find e) (parts_home s v ts m h) b

pub taken_more : (find : Find) (es : List Expr) (i : ℕ) (x : Expr) → i < length es → x ≡ get_or es i x → output_expressions find (take (i + 1) es) ≡ output_expressions find (take i es) ++ output_expression (expr x) find ∷ []
taken_more find es i x h e =
    let f = λ (y : Expr). output_expression (expr y) find in
    let next : i + 1 ≡ suc i = omega arith in
    ap (λ n. map f (take n es)) next ∙ ap (map f) (take-suc es i x h) ∙ map-append f (take i es) (get_or es i x ∷ []) ∙ ap (λ y. map f (take i es) ++ f y ∷ []) (sym e)

pub taken_all : (find : Find) (es : List Expr) (i : ℕ) → i ≡ length es → output_expressions find (take i es) ≡ output_expressions find es
taken_all find es i e = ap (λ n. output_expressions find (take n es)) e ∙ ap (output_expressions find) (take-length es)

pub part_count : (find : Find) (es : List Expr) → length (output_expressions find es) ≡ length es
part_count find es = length-map es (λ (y : Expr). output_expression (expr y) find)

parts_joined : (find : Find) (es : List Expr) → 1 ≤ length es → joined (output_expressions find es) ≡ targets_expression (outputs_of (exprs es)) find false
parts_joined find [] h = absurd (omega arith)
parts_joined find (e ∷ []) h = refl
parts_joined find (e ∷ f ∷ es) h = ap (λ t. E.Join (output_expression (expr e) find) t) (parts_joined find (f ∷ es) (omega arith))

pub join_arm : {U F : Type 0} (r : Result U F) (s v new : Draft) (find : Find) (place n : ℕ) (es xs : List Expr) → xs ≡ es → 1 ≤ length es → n ≡ length es
    → output_of (tree.Concatenation place (exprs es)) ≡ tree.Targeted place (outputs_of (exprs es))
    → AddsParts s v (output_expressions find xs) (1 + targets_depth (outputs_of (exprs xs)))
    → ((q : Draft) (ts : List Expression) (m : ℕ) → AddsParts q v ts m → length ts ≡ n → OnOk r (AddsExpression q new (E.At place (E.Repeat 1 (joined ts))) (1 + m)))
    → OnOk r (AddsExpression s new (output_expression (tree.Concatenation place (exprs es)) find) (1 + target_depth (output_of (tree.Concatenation place (exprs es)))))
join_arm r s v new find place n es xs e some count whole h f =
    let made = f s (output_expressions find xs) (1 + targets_depth (outputs_of (exprs xs))) h (part_count find xs ∙ ap length e ∙ sym count) in
    let same : OnOk r (AddsExpression s new (E.At place (E.Repeat 1 (joined (output_expressions find es)))) (1 + (1 + targets_depth (outputs_of (exprs es))))) =
    subst (λ ys. OnOk r (AddsExpression s new (E.At place (E.Repeat 1 (joined (output_expressions find ys)))) (1 + (1 + targets_depth (outputs_of (exprs ys)))))) e made
    in
    subst (λ t. OnOk r (AddsExpression s new (target_expression t find false) (1 + target_depth t))) (sym whole)
    (subst (λ t. OnOk r (AddsExpression s new (E.At place (E.Repeat 1 t)) (1 + (1 + targets_depth (outputs_of (exprs es)))))) (parts_joined find es some) same)

-- ---- the assign

pub output_ends : (s r v : Draft) (find : Find) (e : tree.Expr) (u : Expression) (m n : ℕ) → IsOutput (home s) find e → AddsExpression s r (output_expression e find) m → AddsExpression r v u n → EndsInAssign P.Output v
output_ends s r v find e u m n o h k =
    let t = output_expression e find in
    record {
      before = s;
      target = record { tree = t; levels = h.levels };
      value = record { tree = u; levels = k.levels };
      is = added_two s r v t u m n h k;
      written = ap is_some (written (home s) find false (output_of e) o.fine.shaped o.fine.sound o.fine.clean);
    }

pub output_is : (s : Draft) (find : Find) (place : ℕ) (x : E.Signal) (e : tree.Expr) → IsOutput (home s) find e
    → and_process s (Continuous place OutputPort (place_of (output_expression e find)) (target_tree (output_expression e find)) (E.At place (E.Name x))) ≡ and_process s (output_process place x (output_of e) find)
output_is s find place x e o =
    ap (λ p. and_process s (Continuous place OutputPort p (target_tree (output_expression e find)) (E.At place (E.Name x)))) (begins_there (output_of e) find false)
    ∙ ap (λ t. and_process s (Continuous place OutputPort (target_place (output_of e)) (unwrap_or t (Whole no)) (E.At place (E.Name x)))) (written (home s) find false (output_of e) o.fine.shaped o.fine.sound o.fine.clean)
  where
    no : E.Signal
    no = record { name = []; scope = 0; number = 0; net = true; input = false; range = None; signed = false; first = 0; words = None; integer = false }
