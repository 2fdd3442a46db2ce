-- A port of an instance without a fault can be built.
use Rattle.std.proofs.Common.{◌≡◌, ℕ, ◌+◌, ◌≤◌, max, Bool, true, false, List, [], ◌++◌, Option, Some, None, refl, sym, ap, ◌∙◌, subst, arith}
use Rattle.std.specs.Prelude.{unwrap_or}
use Rattle.vs_design.specs.Designs.{Design}
use Rattle.vs_grammar.specs.Trees as tree
use Rattle.vs_grammar.specs.Trees.{expr_place}
use Rattle.vs_grammar.specs.Shapes.{IsExpr, AreExprs, AreParts, IsTarget, AreTargets, ArePartsOfTarget}
use Rattle.vs_grammar.specs.Depths.{expr_depth, exprs_depth, target_depth, targets_depth}
use Rattle.vs_ast.specs.Views as view
use Rattle.vs_const.specs.declared.faults.Fault.{Fault}
use Rattle.vs_const.specs.Faults.{fault}
use Rattle.vs_const.specs.declared.rules.Rule.{Rule}
use Rattle.vs_const.specs.declared.rules.Rule.TheVariants.{WrongKind}
use Rattle.vs_const.specs.Sound.{AreSound}
use Rattle.vs_elaborated.specs.Numbers.{AreNumbered}
use Rattle.vs_const.specs.Expressions.{typed}
use Rattle.vs_elaborated.specs.Environments.{Entry, Env, named}
use Rattle.vs_elaborated.specs.Targets.{as_target, as_targets, targeted, and_target}
use Rattle.vs_elaborated.specs.Instances.{directed, output_target}
use Rattle.vs_elaborated.specs.Sound.{MeansSignal}
use Rattle.vs_build.specs.Writable.{IsWritable}
use Rattle.vs_build.specs.Outputs.{IsOutput, output_of}
use Rattle.vs_items.specs.declared.connections.Connection.{Connection}
use Rattle.vs_elab.specs.Wiring.{IsWirable}

-- ---- an expression as a target: it is shaped as one, and nests no deeper

targeted_has : (P : tree.Target → Type 0) (place : ℕ) (o : Option tree.Targets) (t : tree.Target) → ((ts : tree.Targets) → o ≡ Some ts → P (tree.Targeted place ts)) → targeted place o ≡ Some t → P t
targeted_has P place None t f h = cc
targeted_has P place (Some ts) t f h = subst P (same h) (f ts refl)
  where
    same : Some (tree.Targeted place ts) ≡ Some t → tree.Targeted place ts ≡ t
    same k = cc

both_have : (P : tree.Targets → Type 0) (o : Option tree.Target) (p : Option tree.Targets) (ts : tree.Targets) → ((a : tree.Target) (b : tree.Targets) → o ≡ Some a → p ≡ Some b → P (tree.AndTarget a b)) → and_target o p ≡ Some ts → P ts
both_have P None p ts f h = cc
both_have P (Some a) None ts f h = cc
both_have P (Some a) (Some b) ts f h = subst P (same h) (f a b refl refl)
  where
    same : Some (tree.AndTarget a b) ≡ Some ts → tree.AndTarget a b ≡ ts
    same k = cc

mutual
  target_shaped : (e : tree.Expr) (t : tree.Target) → IsExpr e → as_target e ≡ Some t → IsTarget t × (target_depth t ≤ expr_depth e)
  target_shaped (tree.Named name select) t x h = subst (λ (t : tree.Target). IsTarget t × (target_depth t ≤ expr_depth (tree.Named name select))) (same h) ((x.0, x.1), omega arith)
    where
      same : Some (tree.NamedTarget name select) ≡ Some t → tree.NamedTarget name select ≡ t
      same k = cc
  target_shaped (tree.Brackets place e) t x h = let r = target_shaped e t x h in (r.0, omega (arith, r.1))
  target_shaped (tree.Concatenation place parts) t x h =
      targeted_has (λ (t : tree.Target). IsTarget t × (target_depth t ≤ 1 + exprs_depth parts)) place (as_targets parts) t (λ ts k. let r = parts_shaped parts ts x k in (r.0, omega (arith, r.1))) h
  target_shaped (tree.Number n) t x h = cc
  target_shaped (tree.Unary place op a) t x h = cc
  target_shaped (tree.Binary op a b) t x h = cc
  target_shaped (tree.Choice c p q) t x h = cc
  target_shaped (tree.Replication place count parts) t x h = cc
  target_shaped (tree.Call place function a) t x h = cc
  target_shaped (tree.Apply name arguments) t x h = cc

  parts_shaped : (parts : tree.Exprs) (ts : tree.Targets) → AreParts parts → as_targets parts ≡ Some ts → ArePartsOfTarget ts × (targets_depth ts ≤ exprs_depth parts)
  parts_shaped tree.NoExpr ts x h = absurd x
  parts_shaped (tree.AndExpr e rest) ts x h =
      both_have (λ (ts : tree.Targets). ArePartsOfTarget ts × (targets_depth ts ≤ max (expr_depth e) (exprs_depth rest))) (as_target e) (as_targets rest) ts
      (λ a b k l. let p = target_shaped e a x.0 k in let q = rest_shaped rest b x.1 l in ((p.0, q.0), omega (arith, p.1, q.1))) h

  rest_shaped : (parts : tree.Exprs) (ts : tree.Targets) → AreExprs parts → as_targets parts ≡ Some ts → AreTargets ts × (targets_depth ts ≤ exprs_depth parts)
  rest_shaped tree.NoExpr ts x h = subst (λ (ts : tree.Targets). AreTargets ts × (targets_depth ts ≤ 0)) (same h) (tt, omega arith)
    where
      same : Some tree.NoTarget ≡ Some ts → tree.NoTarget ≡ ts
      same k = cc
  rest_shaped (tree.AndExpr e rest) ts x h =
      both_have (λ (ts : tree.Targets). AreTargets ts × (targets_depth ts ≤ max (expr_depth e) (exprs_depth rest))) (as_target e) (as_targets rest) ts
      (λ a b k l. let p = target_shaped e a x.0 k in let q = rest_shaped rest b x.1 l in ((p.0, q.0), omega (arith, p.1, q.1))) h

-- ---- ports

fault_some : (n : Rule) (place : ℕ) (fs : List Fault) → (let all : List Fault = fault n place ++ fs in all) ≡ [] → ⊥
fault_some n place fs h = cc

output_built : (d : Design) (env : Env) (name : List ℕ) (e : tree.Expr) (o : Option tree.Target) → as_target e ≡ o → AreSound d false (named env) → AreNumbered d (named env) → IsExpr e → expr_depth e ≤ 253 → (output_target name e env o).faults ≡ [] → IsOutput d (named env) e
output_built d env name e None i s k x h f = absurd (fault_some WrongKind (expr_place e) (typed e (named env) false).faults f)
output_built d env name e (Some t) i s k x h f =
    let r = target_shaped e t x i in
    let same : t ≡ output_of e = ap (λ (o : Option tree.Target). unwrap_or o (tree.Targeted 0 tree.NoTarget)) (sym i) in
    record {
      is = i ∙ ap (λ (u : tree.Target). let o : Option tree.Target = Some u in o) same;
      fine = subst (λ (u : tree.Target). IsWritable d (named env) false u) same (record { shaped = r.0; sound = s; numbered = k; clean = f; shallow = omega (arith, r.1, h) });
    }

-- a port that is connected without a fault, to a name that means a signal
pub wirable : (d : Design) (env : Env) (es : List Entry) (c : Connection) → AreSound d false (named env) → AreNumbered d (named env) → IsExpr (view.expr c.e.now) → expr_depth (view.expr c.e.now) ≤ 253
    → (directed c.name.now (Some c.input) (view.expr c.e.now) env).faults ≡ [] → MeansSignal d es c.name.now → IsWirable d (named env) es c
wirable d env es c s k x h f m = record {
  meaning = m.meaning;
  is = record { entry = m.entry; found = m.found; declared = m.declared };
  there = m.there;
  input = λ i. record { shaped = x; sound = s; numbered = k; clean = faultless true i; shallow = h };
  output = λ i. output_built d env c.name.now (view.expr c.e.now) (as_target (view.expr c.e.now)) refl s k x h (faultless false i);
}
  where
    faultless : (b : Bool) → c.input ≡ b → (directed c.name.now (Some b) (view.expr c.e.now) env).faults ≡ []
    faultless b i = subst (λ (y : Bool). (directed c.name.now (Some y) (view.expr c.e.now) env).faults ≡ []) i f
