-- The faults of an expression that is a target are those of the target.
use Rattle.std.proofs.Common.{◌≡◌, ℕ, zero, suc, ◌<◌, Bool, true, false, ◌&&◌, List, [], ◌∷◌, ◌++◌, length, get_or, map, flat_map, Option, Some, None, refl, sym, ap, ◌∙◌, subst, arith}
use Rattle.std.specs.Prelude.{is_some}
use Rattle.std.specs.List.{list_all}
use Rattle.std.proofs.lemmas.List.{append-nil}
use Rattle.vs_grammar.specs.Trees as tree
use Rattle.vs_grammar.specs.Shapes.{IsExpr, AreParts, AreExprs}
use Rattle.vs_ast.specs.declared.expressions.Expr.{Expr}
use Rattle.vs_ast.specs.Views.{expr, exprs}
use Rattle.vs_const.specs.declared.faults.Fault.{Fault}
use Rattle.vs_const.specs.Faults.{fault}
use Rattle.vs_const.specs.declared.rules.Rule.TheVariants.{WrongKind}
use Rattle.vs_const.specs.Meanings.{Find}
use Rattle.vs_const.specs.Expressions.{typed}
use Rattle.vs_grammar.specs.Trees.{expr_place}
use Rattle.vs_elaborated.specs.Environments.{Env, named}
use Rattle.vs_elaborated.specs.Instances.{output_target}
use Rattle.vs_elaborated.specs.Targets.{typed_target, typed_targets, as_target, as_targets, targeted, and_target}
use Rattle.vs_items.specs.Outputs.{found_faults, found_parts}

abbrev faults_of : Find → tree.Target → List Fault
faults_of find t = (typed_target t find false).faults

joined : (find : Find) (t : tree.Target) (rest : tree.Targets) → faults_of find t ++ (typed_targets rest find false).faults ≡ (typed_targets (tree.AndTarget t rest) find false).faults
joined find t tree.NoTarget = append-nil (faults_of find t)
joined find t (tree.AndTarget u rest) = refl

of_parts : (place : ℕ) (find : Find) (fs : List Fault) (o : Option tree.Targets) (t : tree.Target) → targeted place o ≡ Some t → ((ts : tree.Targets) → o ≡ Some ts → fs ≡ (typed_targets ts find false).faults) → fs ≡ faults_of find t
of_parts place find fs None t h r = cc
of_parts place find fs (Some ts) t h r = let same : tree.Targeted place ts ≡ t = cc in r ts refl ∙ ap (faults_of find) same

of_both : (find : Find) (fs gs : List Fault) (o : Option tree.Target) (q : Option tree.Targets) (ts : tree.Targets) → and_target o q ≡ Some ts
    → ((t : tree.Target) → o ≡ Some t → fs ≡ faults_of find t) → ((us : tree.Targets) → q ≡ Some us → gs ≡ (typed_targets us find false).faults)
    → fs ++ gs ≡ (typed_targets ts find false).faults
of_both find fs gs None q ts h r s = cc
of_both find fs gs (Some t) None ts h r s = cc
of_both find fs gs (Some t) (Some us) ts h r s =
    let same : tree.AndTarget t us ≡ ts = cc in
    ap (λ x. x ++ gs) (r t refl) ∙ ap (λ x. faults_of find t ++ x) (s us refl) ∙ joined find t us ∙ ap (λ x. (typed_targets x find false).faults) same

mutual
  pub found_are : (e : tree.Expr) (find : Find) (t : tree.Target) → as_target e ≡ Some t → found_faults e find ≡ faults_of find t
  found_are (tree.Named name select) find t h = let same : tree.NamedTarget name select ≡ t = cc in ap (faults_of find) same
  found_are (tree.Concatenation place parts) find t h = of_parts place find (found_parts parts find) (as_targets parts) t h (parts_are parts find)
  found_are (tree.Brackets place e) find t h = found_are e find t h
  found_are (tree.Number n) find t h = cc
  found_are (tree.Unary place op a) find t h = cc
  found_are (tree.Binary op a b) find t h = cc
  found_are (tree.Choice c p q) find t h = cc
  found_are (tree.Replication place count parts) find t h = cc
  found_are (tree.Call place function a) find t h = cc
  found_are (tree.Apply name arguments) find t h = cc

  parts_are : (es : tree.Exprs) (find : Find) (ts : tree.Targets) → as_targets es ≡ Some ts → found_parts es find ≡ (typed_targets ts find false).faults
  parts_are tree.NoExpr find ts h = let same : tree.NoTarget ≡ ts = cc in ap (λ x. (typed_targets x find false).faults) same
  parts_are (tree.AndExpr e rest) find ts h = of_both find (found_faults e find) (found_parts rest find) (as_target e) (as_targets rest) ts h (found_are e find) (parts_are rest find)

-- ---- as lists

pub parts_found : (find : Find) (es : List Expr) → found_parts (exprs es) find ≡ flat_map (λ (e : tree.Expr). found_faults e find) (map expr es)
parts_found find [] = refl
parts_found find (e ∷ es) = ap (λ fs. found_faults (expr e) find ++ fs) (parts_found find es)

both_some : (o : Option tree.Target) (q : Option tree.Targets) → is_some (and_target o q) ≡ (is_some o && is_some q)
both_some None None = refl
both_some None (Some ts) = refl
both_some (Some t) None = refl
both_some (Some t) (Some ts) = refl

abbrev pub is_output : Expr → Bool
is_output e = is_some (as_target (expr e))

pub all_some : (es : List Expr) → is_some (as_targets (exprs es)) ≡ list_all is_output es
all_some [] = refl
all_some (e ∷ es) = both_some (as_target (expr e)) (as_targets (exprs es)) ∙ ap (λ b. is_output e && b) (all_some es)

pub parts_some : (place : ℕ) (o : Option tree.Targets) → is_some (targeted place o) ≡ is_some o
parts_some place None = refl
parts_some place (Some ts) = refl

pub parts_shaped : (es : tree.Exprs) → AreParts es → AreExprs es
parts_shaped tree.NoExpr h = absurd h
parts_shaped (tree.AndExpr e rest) h = h

part_get : (es : List Expr) (i : ℕ) (d : Expr) → AreExprs (exprs es) → i < length es → IsExpr (expr (get_or es i d))
part_get [] i d h k = absurd (let no : ⊥ = omega (arith, k) in no)
part_get (e ∷ es) zero d h k = h.0
part_get (e ∷ es) (suc i) d h k = part_get es i d h.1 (omega (arith, k))

pub part_at : (es : List Expr) (i : ℕ) (x : Expr) → AreExprs (exprs es) → i < length es → x ≡ get_or es i x → IsExpr (expr x)
part_at es i x h k e = subst (λ (y : Expr). IsExpr (expr y)) (sym e) (part_get es i x h k)

-- ---- connected to an output

pub target_output : (name : List ℕ) (e : tree.Expr) (env : Env) → is_some (as_target e) ≡ true → found_faults e (named env) ≡ (output_target name e env (as_target e)).faults
target_output name e env h = by (as_target e) refl h (found_are e (named env))
  where
    by : (o : Option tree.Target) → as_target e ≡ o → is_some o ≡ true → ((t : tree.Target) → as_target e ≡ Some t → found_faults e (named env) ≡ faults_of (named env) t) → found_faults e (named env) ≡ (output_target name e env o).faults
    by None is h r = cc
    by (Some t) is h r = r t is

pub no_target : (name : List ℕ) (e : tree.Expr) (env : Env) → is_some (as_target e) ≡ false → fault WrongKind (expr_place e) ++ (typed e (named env) false).faults ≡ (output_target name e env (as_target e)).faults
no_target name e env h = by (as_target e) h
  where
    by : (o : Option tree.Target) → is_some o ≡ false → fault WrongKind (expr_place e) ++ (typed e (named env) false).faults ≡ (output_target name e env o).faults
    by None h = refl
    by (Some t) h = cc
