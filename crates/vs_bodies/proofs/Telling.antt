-- What is told of a statement, by its parts.
use Rattle.std.proofs.Common.{◌≡◌, ℕ, zero, suc, ◌+◌, ◌<◌, ◌≤◌, Bool, true, false, List, [], ◌∷◌, ◌++◌, length, get_or, map, Option, None, refl, sym, ap, ◌∙◌, subst, arith}
use denote.Param.Weighed.{most, at_most}
use Rattle.vs_base.specs.declared.events.CaseKind.{CaseKind}
use Rattle.vs_design.specs.Statements.{Case}
use Rattle.vs_grammar.specs.Trees as tree
use Rattle.vs_grammar.specs.Shapes.{IsStatement, AreStatements, AreArms, IsTarget, ArePartsOfTarget, AreTargets}
use Rattle.vs_ast.proofs.statements.Statement.TheLaws as statement_laws
use Rattle.vs_ast.proofs.statements.CaseArm.TheLaws as arm_laws
use Rattle.vs_ast.proofs.statements.Target.TheLaws as target_laws
use Rattle.vs_ast.specs.declared.expressions.Expr.{Expr}
use Rattle.vs_ast.specs.declared.statements.Statement.{Statement}
use Rattle.vs_ast.specs.declared.statements.CaseArm.{CaseArm}
use Rattle.vs_ast.specs.declared.statements.Target.{Target}
use Rattle.vs_ast.specs.Views as view
use Rattle.vs_const.specs.declared.faults.Fault.{Fault}
use Rattle.vs_const.specs.Faults.{least, better}
use Rattle.vs_const.specs.Meanings.{Find}
use Rattle.vs_const.specs.Typed.{Typed}
use Rattle.vs_const.specs.Expressions.{typed}
use Rattle.vs_const.proofs.Least.{least_append}
use Rattle.vs_elaborated.specs.Targets.{TypedTarget, both_targets, typed_target, typed_targets}
use Rattle.vs_elaborated.specs.Statements.{Body, TypedStatement, TypedArms, typed_list, nothing_done, not_there, conditional, both_done, in_block, typed_statement, typed_arms}
use Rattle.vs_bodies.specs.declared.told.Told.{Told}
use Rattle.vs_bodies.specs.Told.{broken, nothing, joined, one, told, told_arms, told_value, told_labels, told_target, arms_alone, tells, tells_sequence, tells_parts, tells_arms}
use Rattle.vs_bodies.specs.Walks.{tells_arm}
use Rattle.vs_bodies.proofs.Joins.{same, better_none, joined_assoc, nothing_before, nothing_behind}
use Rattle.vs_bodies.proofs.Parts.{all_of}

least_three : (x y z : List Fault) → least (x ++ (y ++ z)) ≡ better (least x) (better (least y) (least z))
least_three x y z = least_append x (y ++ z) ∙ ap (better (least x)) (least_append y z)

-- ---- by themselves

pub nothing_told : (b : Bool) → told b (nothing_done []) ≡ joined nothing (one b)
nothing_told true = refl
nothing_told false = refl

pub faults_told : (b : Bool) (fs : List Fault) → told b (nothing_done fs) ≡ joined (broken (least fs) 0) (one b)
faults_told true fs = same _ _ _ _ _ _ (sym (better_none (least fs))) refl refl
faults_told false fs = same _ _ _ _ _ _ (sym (better_none (least fs))) refl refl

pub not_there_told : (b : Bool) → told b (not_there []) ≡ nothing
not_there_told true = refl
not_there_told false = refl

pub absent_told : (b : Bool) (fs : List Fault) → told b (not_there fs) ≡ broken (least fs) 0
absent_told true fs = refl
absent_told false fs = refl

pub block_told : (b : Bool) (fs : List Fault) (s : TypedStatement) → told b (in_block fs s) ≡ joined (broken (least fs) 0) (told b s)
block_told true fs s = same _ _ _ _ _ _ (least_append fs s.faults) (omega arith) (omega arith)
block_told false fs s = same _ _ _ _ _ _ (least_append fs s.faults) (omega arith) (omega arith)

pub both_told : (b : Bool) (s t : TypedStatement) → told b (both_done s t) ≡ joined (told b s) (told b t)
both_told true s t = same _ _ _ _ _ _ (least_append s.faults t.faults) refl refl
both_told false s t = same _ _ _ _ _ _ (least_append s.faults t.faults) refl refl

-- ---- conditions

first_of_three : (c : Typed) (b : Bool) (y z : Option Fault) → better (least c.faults) (better y z) ≡ better (better (least c.faults) None) (better y z)
first_of_three c b y z = ap (λ f. better f (better y z)) (sym (better_none (least c.faults)))

pub conditional_told : (b : Bool) (c : Typed) (s t : TypedStatement) → told b (conditional c s t) ≡ joined (joined (told_value c) (one b)) (joined (told b s) (told b t))
conditional_told true c s t = same _ _ _ _ _ _ (least_three c.faults s.faults t.faults ∙ first_of_three c true (least s.faults) (least t.faults)) (omega arith) (omega arith)
conditional_told false c s t = same _ _ _ _ _ _ (least_three c.faults s.faults t.faults ∙ first_of_three c false (least s.faults) (least t.faults)) (omega arith) (omega arith)

-- what a case is, by its subject and its arms
abbrev pub case_of : CaseKind → Typed → TypedArms → TypedStatement
case_of kind e r = record { statement = Case kind e.expression r.arms; size = 1 + r.size; copies = r.copies; faults = e.faults ++ r.faults }

pub case_told : (b : Bool) (kind : CaseKind) (e : Typed) (r : TypedArms) → told b (case_of kind e r) ≡ joined (joined (told_value e) (one b)) (told_arms b r)
case_told true kind e r = same _ _ _ _ _ _ (least_append e.faults r.faults ∙ ap (λ f. better f (least r.faults)) (sym (better_none (least e.faults)))) (omega arith) (omega arith)
case_told false kind e r = same _ _ _ _ _ _ (least_append e.faults r.faults ∙ ap (λ f. better f (least r.faults)) (sym (better_none (least e.faults)))) (omega arith) (omega arith)

-- ---- sequences

abbrev pub part_tells : Bool → Body → Find → Statement → Told
part_tells b body find s = tells b (view.statement s) body find

parts_tell : (b : Bool) (body : Body) (find : Find) (ss : List Statement) → tells_parts b (view.statements ss) body find ≡ all_of (part_tells b body find) ss
parts_tell b body find [] = refl
parts_tell b body find (s ∷ ss) = ap (joined (part_tells b body find s)) (parts_tell b body find ss)

pub some_sequence_tells : (b : Bool) (body : Body) (find : Find) (ss : List Statement) → 0 < length ss → tells_sequence b (view.statements ss) body find ≡ all_of (part_tells b body find) ss
some_sequence_tells b body find [] h = absurd (omega arith)
some_sequence_tells b body find (s ∷ ss) h = ap (joined (part_tells b body find s)) (parts_tell b body find ss)

pub no_sequence_tells : (b : Bool) (body : Body) (find : Find) (ss : List Statement) → length ss ≡ 0 → tells_sequence b (view.statements ss) body find ≡ joined nothing (one b)
no_sequence_tells b body find [] h = refl
no_sequence_tells b body find (s ∷ ss) h = absurd (omega (arith, h))

part_get : (ss : List Statement) (i : ℕ) (d : Statement) → AreStatements (view.statements ss) → i < length ss → IsStatement (view.statement (get_or ss i d))
part_get [] i d h k = absurd (let no_part : ⊥ = omega (arith, k) in no_part)
part_get (s ∷ ss) zero d h k = h.0
part_get (s ∷ ss) (suc i) d h k = part_get ss i d h.1 (omega (arith, k))

pub part_at : (ss : List Statement) (i : ℕ) (x : Statement) → AreStatements (view.statements ss) → i < length ss → x ≡ get_or ss i x → IsStatement (view.statement x)
part_at ss i x h k e = subst (λ y. IsStatement (view.statement y)) (sym e) (part_get ss i x h k)

pub part_at_most : (ss : List Statement) (i : ℕ) (x : Statement) → i < length ss → x ≡ get_or ss i x → statement_laws.the_size x ≤ most statement_laws.the_size ss
part_at_most ss i x h k = subst (λ z. statement_laws.the_size z ≤ most statement_laws.the_size ss) (sym k) (at_most statement_laws.the_size ss i x h)

-- ---- labels and arms

abbrev pub label_told : Find → Expr → Told
label_told find e = told_value (typed (view.expr e) find false)

pub labels_told : (find : Find) (es : List Expr) → told_labels (typed_list (map view.expr es) find) ≡ all_of (label_told find) es
labels_told find [] = refl
labels_told find (e ∷ es) =
    let r = typed_list (map view.expr es) find in
    same _ _ _ _ _ _ (least_append (typed (view.expr e) find false).faults r.faults) refl refl ∙ ap (joined (label_told find e)) (labels_told find es)

-- an arm before others
pub arms_step : (b : Bool) (labels : List tree.Expr) (s : tree.Statement) (rest : tree.CaseArms) (body : Body) (find : Find) (other : TypedStatement)
    → told_arms b (typed_arms (tree.AndArm labels s rest) body find other) ≡ joined (joined (told_labels (typed_list labels find)) (told b (typed_statement s body find))) (told_arms b (typed_arms rest body find other))
arms_step b labels s rest body find other =
    by b
    ∙ sym (joined_assoc (told_labels (typed_list labels find)) (told b (typed_statement s body find)) (told_arms b (typed_arms rest body find other)))
  where
    by : (b : Bool) → told_arms b (typed_arms (tree.AndArm labels s rest) body find other) ≡ joined (told_labels (typed_list labels find)) (joined (told b (typed_statement s body find)) (told_arms b (typed_arms rest body find other)))
    by true = same _ _ _ _ _ _ (least_three (typed_list labels find).faults (typed_statement s body find).faults (typed_arms rest body find other).faults) (omega arith) refl
    by false = same _ _ _ _ _ _ (least_three (typed_list labels find).faults (typed_statement s body find).faults (typed_arms rest body find other).faults) (omega arith) refl

abbrev pub alone : CaseArm → tree.CaseArms
alone a = view.arms (a ∷ [])

pub default_told : (b : Bool) (body : Body) (find : Find) (other : TypedStatement) → told_arms b (typed_arms tree.NoArm body find other) ≡ told b other
default_told true body find other = refl
default_told false body find other = refl

abbrev pub arm_tells : Bool → Body → Find → CaseArm → Told
arm_tells b body find a = tells_arm b a body find

pub arms_tell : (b : Bool) (body : Body) (find : Find) (list : List CaseArm) → tells_arms b (view.arms list) body find ≡ all_of (arm_tells b body find) list
arms_tell b body find [] = refl
arms_tell b body find (a ∷ rest) = ap (joined (arm_tells b body find a)) (arms_tell b body find rest)

-- the default comes behind
pub with_default_told : (b : Bool) (arms : tree.CaseArms) (body : Body) (find : Find) (other : TypedStatement) → told_arms b (typed_arms arms body find other) ≡ joined (told_arms b (arms_alone arms body find)) (told b other)
with_default_told b tree.NoArm body find other =
    default_told b body find other ∙ sym (nothing_before (told b other)) ∙ ap (λ t. joined t (told b other)) (sym (default_told b body find (not_there []) ∙ not_there_told b))
with_default_told b (tree.AndArm labels s rest) body find other =
    let x = joined (told_labels (typed_list labels find)) (told b (typed_statement s body find)) in
    arms_step b labels s rest body find other
    ∙ ap (joined x) (with_default_told b rest body find other)
    ∙ sym (joined_assoc x (told_arms b (arms_alone rest body find)) (told b other))
    ∙ ap (λ t. joined t (told b other)) (sym (arms_step b labels s rest body find (not_there [])))

arm_get : (list : List CaseArm) (i : ℕ) (d : CaseArm) → AreArms (view.arms list) → i < length list → AreArms (alone (get_or list i d))
arm_get [] i d h k = absurd (let no_arm : ⊥ = omega (arith, k) in no_arm)
arm_get (a ∷ rest) zero d h k = (h.0, h.1, tt)
arm_get (a ∷ rest) (suc i) d h k = arm_get rest i d h.2 (omega (arith, k))

pub arm_at : (list : List CaseArm) (i : ℕ) (x : CaseArm) → AreArms (view.arms list) → i < length list → x ≡ get_or list i x → AreArms (alone x)
arm_at list i x h k e = subst (λ y. AreArms (alone y)) (sym e) (arm_get list i x h k)

pub arm_at_most : (list : List CaseArm) (i : ℕ) (x : CaseArm) → i < length list → x ≡ get_or list i x → arm_laws.the_size x ≤ most arm_laws.the_size list
arm_at_most list i x h k = subst (λ z. arm_laws.the_size z ≤ most arm_laws.the_size list) (sym k) (at_most arm_laws.the_size list i x h)

-- ---- targets

abbrev pub target_part : Find → Bool → Target → Told
target_part find p t = told_target (typed_target (view.target t) find p)

both_targets_told : (s t : TypedTarget) → told_target (both_targets s t) ≡ joined (told_target s) (told_target t)
both_targets_told s t = same _ _ _ _ _ _ (least_append s.faults t.faults) refl refl

pub targets_told : (find : Find) (p : Bool) (ts : List Target) → told_target (typed_targets (view.targets ts) find p) ≡ all_of (target_part find p) ts
targets_told find p [] = refl
targets_told find p (t ∷ []) = sym (nothing_behind (target_part find p t))
targets_told find p (t ∷ (u ∷ ts)) =
    both_targets_told (typed_target (view.target t) find p) (typed_targets (view.targets (u ∷ ts)) find p) ∙ ap (joined (target_part find p t)) (targets_told find p (u ∷ ts))

pub parts_shaped : (ts : tree.Targets) → ArePartsOfTarget ts → AreTargets ts
parts_shaped tree.NoTarget h = absurd h
parts_shaped (tree.AndTarget t rest) h = h

target_get : (ts : List Target) (i : ℕ) (d : Target) → AreTargets (view.targets ts) → i < length ts → IsTarget (view.target (get_or ts i d))
target_get [] i d h k = absurd (let no_target : ⊥ = omega (arith, k) in no_target)
target_get (t ∷ ts) zero d h k = h.0
target_get (t ∷ ts) (suc i) d h k = target_get ts i d h.1 (omega (arith, k))

pub target_at : (ts : List Target) (i : ℕ) (x : Target) → AreTargets (view.targets ts) → i < length ts → x ≡ get_or ts i x → IsTarget (view.target x)
target_at ts i x h k e = subst (λ y. IsTarget (view.target y)) (sym e) (target_get ts i x h k)

pub target_at_most : (ts : List Target) (i : ℕ) (x : Target) → i < length ts → x ≡ get_or ts i x → target_laws.the_size x ≤ most target_laws.the_size ts
target_at_most ts i x h k = subst (λ z. target_laws.the_size z ≤ most target_laws.the_size ts) (sym k) (at_most target_laws.the_size ts i x h)
