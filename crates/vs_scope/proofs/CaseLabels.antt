-- The labels of a case, together.
use Rattle.std.proofs.Common.{◌≡◌, ◌≤◌, ◌<◌, ℕ, zero, suc, ◌+◌, Bool, true, false, ◌&&◌, List, [], ◌∷◌, ◌++◌, map, flat_map, length, get_or, drop, max, min, is_none, Option, Some, None, refl, sym, ap, ◌∙◌, subst, append_assoc, arith}
use Rattle.std.specs.List.{list_all}
use Rattle.std.proofs.lemmas.Bool.{ltb-false}
use Rattle.std.proofs.lemmas.Grind.{flat_map-append}
use Rattle.std.proofs.lemmas.List.{map-append}
use Rattle.vs_grammar.specs.Trees as tree
use Rattle.vs_grammar.specs.Shapes.{Each, OneOrMore, IsExpr, IsBlock, AreGenerateArms}
use Rattle.vs_ast.specs.Views as view
use Rattle.vs_ast.specs.declared.items.GenerateArm.{GenerateArm}
use Rattle.vs_four.specs.Logic.{BitList}
use Rattle.vs_design.specs.Expressions.{sign}
use Rattle.vs_design.specs.Values.{constant_value}
use Rattle.vs_const.specs.declared.faults.Fault.{Fault}
use Rattle.vs_const.specs.declared.found.Checked.{Checked}
use Rattle.vs_const.specs.Checks.{Checks, capped}
use Rattle.vs_const.specs.Faults.{least, better}
use Rattle.vs_const.specs.Typed.{Typed, is_over}
use Rattle.vs_const.specs.Expressions.{constant, is_clean}
use Rattle.vs_const.proofs.Least.{least_append}
use Rattle.vs_const.proofs.Short.{short}
use Rattle.vs_elaborated.specs.Environments.{Env, named}
use Rattle.vs_elaborated.specs.Constructs as spec
use Rattle.vs_elaborated.specs.Constructs.{Label, length_or_none, widest, all_signed, own_unknown, unknown_in, in_context, same_bits, arm_of, no_case, label_of, labels_of, said_case}
use Rattle.vs_scope.specs.declared.cases.Labels.{Labels}
use Rattle.vs_scope.specs.declared.cases.SaidCase.{SaidCase}
use Rattle.vs_scope.specs.Cases.{label_faults, own_faults, all_good, AreLabels, IsFit, AreFitArms, has_value, good_case, IsSaidCase}
use Rattle.vs_scope.proofs.Steps.{append_none, from_place, none_left}

all_append : (f : Label → Bool) (xs ys : List Label) → list_all f (xs ++ ys) ≡ (list_all f xs && list_all f ys)
all_append f [] ys = refl
all_append f (x ∷ xs) ys = by (f x) (all_append f xs ys)
  where
    by : (b : Bool) → list_all f (xs ++ ys) ≡ (list_all f xs && list_all f ys) → (b && list_all f (xs ++ ys)) ≡ ((b && list_all f xs) && list_all f ys)
    by true h = h
    by false h = refl

widest_append : (xs ys : List Label) → widest (xs ++ ys) ≡ max (widest xs) (widest ys)
widest_append [] ys = omega arith
widest_append (x ∷ xs) ys = let h = widest_append xs ys in omega (arith, h)

pub labels_together : (a b r : Labels) (ls ms : List Label) → AreLabels a ls → AreLabels b ms → r.good ≡ (a.good && b.good) → r.width ≡ max a.width b.width → r.signed ≡ (a.signed && b.signed)
    → r.fault ≡ better a.fault b.fault → r.unknown ≡ better a.unknown b.unknown → AreLabels r (ls ++ ms)
labels_together a b r ls ms h k good wide signed fault unknown = record {
  good = good ∙ ap (λ (x : Bool). x && b.good) h.good ∙ ap (λ (x : Bool). all_good ls && x) k.good ∙ sym (all_append (λ (l : Label). l.typed.good) ls ms);
  width = let p = h.width in let q = k.width in let w = widest_append ls ms in omega (arith, wide, p, q, w);
  signed = signed ∙ ap (λ (x : Bool). x && b.signed) h.signed ∙ ap (λ (x : Bool). all_signed ls && x) k.signed ∙ sym (all_append (λ (l : Label). sign l.typed.expression) ls ms);
  fault =
      fault ∙ ap (λ (x : Option Fault). better x b.fault) h.fault ∙ ap (better (least (label_faults ls))) k.fault ∙ sym (least_append (label_faults ls) (label_faults ms))
      ∙ ap least (sym (flat_map-append (λ (l : Label). l.typed.faults) ls ms));
  unknown =
      unknown ∙ ap (λ (x : Option Fault). better x b.unknown) h.unknown ∙ ap (better (least (own_faults ls))) k.unknown ∙ sym (least_append (own_faults ls) (own_faults ms)) ∙ ap least (sym (flat_map-append own_unknown ls ms));
}

and_true : (b : Bool) → b ≡ (b && true)
and_true true = refl
and_true false = refl

capped_is : (o : Option ℕ) → length_or_none (capped o) ≡ min 65 (max (length_or_none o) 0)
capped_is None = refl
capped_is (Some n) = omega arith

pub label_alone : (l : Label) (c : Checked) (r : Labels) → Checks c l.typed → r.good ≡ c.good → r.width ≡ length_or_none c.length → r.signed ≡ c.signed → r.fault ≡ c.flaws.first → r.unknown ≡ least (own_unknown l)
    → AreLabels r (l ∷ [])
label_alone l c r h good wide signed fault unknown = record {
  good = good ∙ h.good ∙ and_true l.typed.good;
  width = wide ∙ ap length_or_none h.length ∙ capped_is l.typed.length;
  signed = signed ∙ h.signed ∙ and_true (sign l.typed.expression);
  fault = fault ∙ ap (λ f. f.first) h.flaws ∙ ap least (sym (append_none l.typed.faults));
  unknown = unknown ∙ ap least (sym (append_none (own_unknown l)));
}

-- labels so far
pub record AreLabelled (all : Labels) (rest whole : List Label) : Type 0 where
  pub done : List Label
  pub labels : AreLabels all done
  pub whole_is : done ++ rest ≡ whole

pub labelled_start : (all : Labels) (whole : List Label) → AreLabels all [] → AreLabelled all whole whole
labelled_start all whole h = record { done = []; labels = h; whole_is = refl }

pub labelled_more : (all one sum : Labels) (ls rest whole : List Label) → AreLabelled all (ls ++ rest) whole → AreLabels one ls → ((ls ms : List Label) → AreLabels all ls → AreLabels one ms → AreLabels sum (ls ++ ms))
    → AreLabelled sum rest whole
labelled_more all one sum ls rest whole before h f = record { done = before.done ++ ls; labels = f before.done ls before.labels h; whole_is = append_assoc before.done ls rest ∙ before.whole_is }

pub labelled_end : (all : Labels) (whole : List Label) → AreLabelled all [] whole → AreLabels all whole
labelled_end all whole h = subst (AreLabels all) (sym (append_none h.done) ∙ h.whole_is) h.labels

-- ---- one of a list, and one of several arms

each_get : {A B : Type 0} (P : B → Type 0) (f : A → B) (xs : List A) (i : ℕ) (d : A) → i < length xs → Each P (map f xs) → P (f (get_or xs i d))
each_get P f [] i d h all = absurd (let no : ⊥ = omega (arith, h) in no)
each_get P f (x ∷ xs) zero d h all = all.0
each_get P f (x ∷ xs) (suc i) d h all = each_get P f xs i d (omega (arith, h)) all.1

pub each_at : {A B : Type 0} (P : B → Type 0) (f : A → B) (xs : List A) (i : ℕ) (x : A) → i < length xs → x ≡ get_or xs i x → Each P (map f xs) → P (f x)
each_at P f xs i x h e all = subst (λ y. P (f y)) (sym e) (each_get P f xs i x h all)

each_of : {A : Type 0} (P : A → Type 0) (xs : List A) → OneOrMore P xs → Each P xs
each_of P [] h = absurd h
each_of P (x ∷ xs) h = h

arm_get : (arms : List GenerateArm) (i : ℕ) (d : GenerateArm) → i < length arms → AreGenerateArms (view.generate_arms arms) → Each IsExpr (map view.expr (get_or arms i d).labels.items) × IsBlock (view.block (get_or arms i d).block)
arm_get [] i d h all = absurd (let no : ⊥ = omega (arith, h) in no)
arm_get (a ∷ arms) zero d h all = (each_of IsExpr (map view.expr a.labels.items) all.0, all.1)
arm_get (a ∷ arms) (suc i) d h all = arm_get arms i d (omega (arith, h)) all.2

-- an arm has the grammar's shape
pub arm_shaped : (arms : List GenerateArm) (i : ℕ) (a : GenerateArm) → i < length arms → a ≡ get_or arms i a → AreGenerateArms (view.generate_arms arms) → Each IsExpr (map view.expr a.labels.items) × IsBlock (view.block a.block)
arm_shaped arms i a h e all = subst (λ (x : GenerateArm). Each IsExpr (map view.expr x.labels.items) × IsBlock (view.block x.block)) (sym e) (arm_get arms i a h all)

fit_get : (w : ℕ) (env : Env) (arms : List GenerateArm) (i : ℕ) (d : GenerateArm) → i < length arms → AreFitArms w env (view.generate_arms arms) → Each (IsFit w env) (map view.expr (get_or arms i d).labels.items)
fit_get w env [] i d h all = absurd (let no : ⊥ = omega (arith, h) in no)
fit_get w env (a ∷ arms) zero d h all = all.0
fit_get w env (a ∷ arms) (suc i) d h all = fit_get w env arms i d (omega (arith, h)) all.1

pub arm_fit : (w : ℕ) (env : Env) (arms : List GenerateArm) (i : ℕ) (a : GenerateArm) → i < length arms → a ≡ get_or arms i a → AreFitArms w env (view.generate_arms arms) → Each (IsFit w env) (map view.expr a.labels.items)
arm_fit w env arms i a h e all = subst (λ (x : GenerateArm). Each (IsFit w env) (map view.expr x.labels.items)) (sym e) (fit_get w env arms i a h all)

-- the labels from an arm on
pub arms_from : (env : Env) (arms : List GenerateArm) (i : ℕ) (a : GenerateArm) → i < length arms → a ≡ get_or arms i a
    → map (label_of env) (labels_of (view.generate_arms (drop i arms))) ≡ map (label_of env) (map view.expr a.labels.items) ++ map (label_of env) (labels_of (view.generate_arms (drop (suc i) arms)))
arms_from env arms i a h e =
    ap (λ (x : List GenerateArm). map (label_of env) (labels_of (view.generate_arms x))) (from_place arms i a h e) ∙ map-append (label_of env) (map view.expr a.labels.items) (labels_of (view.generate_arms (drop (suc i) arms)))

-- ---- labels that fit

both_true : (a b : Bool) → (a && b) ≡ true → (a ≡ true) × (b ≡ true)
both_true true b h = (refl, h)
both_true false b h = cc

not_over : (o : Option ℕ) → is_over 64 o ≡ false → length_or_none o ≤ 64
not_over None h = omega arith
not_over (Some n) h = ltb-false 64 n h

pub narrow : (env : Env) (es : List tree.Expr) → all_good (map (label_of env) es) ≡ true → widest (map (label_of env) es) ≤ 64
narrow env [] h = omega arith
narrow env (e ∷ es) h =
    let k = both_true (constant e (named env)).good (all_good (map (label_of env) es)) h in
    let a = not_over (constant e (named env)).length (short e (named env) k.0) in
    let b = narrow env es k.1 in
    omega (arith, a, b)

pub fit_all : (w : ℕ) (env : Env) (es : List tree.Expr) → Each IsExpr es → all_good (map (label_of env) es) ≡ true → widest (map (label_of env) es) ≤ w → Each (IsFit w env) es
fit_all w env [] x h k = tt
fit_all w env (e ∷ es) x h k =
    let g = both_true (constant e (named env)).good (all_good (map (label_of env) es)) h in
    (record { shaped = x.0; good = g.0; fits = omega (arith, k) }, fit_all w env es x.1 g.1 (omega (arith, k)))

pub fit_arms : (w : ℕ) (env : Env) (arms : tree.GenerateArms) → AreGenerateArms arms → all_good (map (label_of env) (labels_of arms)) ≡ true → widest (map (label_of env) (labels_of arms)) ≤ w → AreFitArms w env arms
fit_arms w env tree.NoGenerateArm x h k = tt
fit_arms w env (tree.AndGenerateArm labels block rest) x h k =
    let ls = map (label_of env) labels in
    let rs = map (label_of env) (labels_of rest) in
    let whole : map (label_of env) (labels ++ labels_of rest) ≡ ls ++ rs = map-append (label_of env) labels (labels_of rest) in
    let g = both_true (all_good ls) (all_good rs) (sym (all_append (λ (l : Label). l.typed.good) ls rs) ∙ ap all_good (sym whole) ∙ h) in
    let wide : widest (map (label_of env) (labels ++ labels_of rest)) ≡ max (widest ls) (widest rs) = ap widest whole ∙ widest_append ls rs in
    (fit_all w env labels (each_of IsExpr labels x.0) g.0 (omega (arith, k, wide)), fit_arms w env rest x.2 g.1 (omega (arith, k, wide)))

-- ---- the case

clean_is : (fs : List Fault) → is_clean fs ≡ is_none (least fs)
clean_is [] = refl
clean_is (f ∷ fs) = refl

abbrev pub case_labels : Env → tree.Expr → tree.GenerateArms → List Label
case_labels env subject arms = label_of env subject ∷ map (label_of env) (labels_of arms)

pub case_good : (env : Env) (subject : tree.Expr) (arms : tree.GenerateArms) → all_good (case_labels env subject arms) ≡ true → good_case env subject arms (case_labels env subject arms) ≡ said_case subject arms env
case_good env subject arms h =
    let ls = case_labels env subject arms in
    sym (ap (λ (b : Bool). elim b as (λ x. spec.SaidCase) [ false ↦ no_case (label_faults ls ++ own_faults ls) | true ↦ good_case env subject arms ls ]) h)

pub case_bad : (env : Env) (subject : tree.Expr) (arms : tree.GenerateArms) → all_good (case_labels env subject arms) ≡ false
    → no_case (label_faults (case_labels env subject arms) ++ own_faults (case_labels env subject arms)) ≡ said_case subject arms env
case_bad env subject arms h =
    let ls = case_labels env subject arms in
    sym (ap (λ (b : Bool). elim b as (λ x. spec.SaidCase) [ false ↦ no_case (label_faults ls ++ own_faults ls) | true ↦ good_case env subject arms ls ]) h)

-- the faults of all labels
abbrev unknown_all : List Label → List Fault
unknown_all ls = flat_map (unknown_in (widest ls) (all_signed ls)) ls

pub case_clean : (env : Env) (subject : tree.Expr) (arms : tree.GenerateArms) (ls : List Label) (c : SaidCase) (own unknown : Option Fault) → own ≡ least (own_faults ls) → unknown ≡ least (unknown_all ls)
    → (is_none own && is_none unknown) ≡ true → c.defined ≡ true
    → c.arm ≡ arm_of (same_bits (in_context (widest ls) (all_signed ls) (constant subject (named env)))) (widest ls) (all_signed ls) env arms
    → c.fault ≡ least (label_faults ls ++ own_faults ls) → IsSaidCase c (good_case env subject arms ls)
case_clean env subject arms ls c own unknown h k clean d a f = by (is_clean (own_faults ls) && is_clean (unknown_all ls)) (both ∙ clean)
  where
    both : (is_clean (own_faults ls) && is_clean (unknown_all ls)) ≡ (is_none own && is_none unknown)
    both = ap (λ (b : Bool). b && is_clean (unknown_all ls)) (clean_is (own_faults ls) ∙ ap is_none (sym h)) ∙ ap (λ (b : Bool). is_none own && b) (clean_is (unknown_all ls) ∙ ap is_none (sym k))

    by : (b : Bool) → b ≡ true → IsSaidCase c (elim b as (λ x. spec.SaidCase) [
      | true ↦ record { defined = true; arm = arm_of (same_bits (in_context (widest ls) (all_signed ls) (constant subject (named env)))) (widest ls) (all_signed ls) env arms; faults = label_faults ls ++ own_faults ls }
      | false ↦ no_case ((label_faults ls ++ own_faults ls) ++ unknown_all ls)
    ])
    by true e = record { defined = d; arm = a; fault = f }
    by false e = cc

pub case_unclean : (env : Env) (subject : tree.Expr) (arms : tree.GenerateArms) (ls : List Label) (c : SaidCase) (own unknown : Option Fault) → own ≡ least (own_faults ls) → unknown ≡ least (unknown_all ls)
    → (is_none own && is_none unknown) ≡ false → IsSaidCase c (no_case ((label_faults ls ++ own_faults ls) ++ unknown_all ls)) → IsSaidCase c (good_case env subject arms ls)
case_unclean env subject arms ls c own unknown h k unclean is = by (is_clean (own_faults ls) && is_clean (unknown_all ls)) (both ∙ unclean)
  where
    both : (is_clean (own_faults ls) && is_clean (unknown_all ls)) ≡ (is_none own && is_none unknown)
    both = ap (λ (b : Bool). b && is_clean (unknown_all ls)) (clean_is (own_faults ls) ∙ ap is_none (sym h)) ∙ ap (λ (b : Bool). is_none own && b) (clean_is (unknown_all ls) ∙ ap is_none (sym k))

    by : (b : Bool) → b ≡ false → IsSaidCase c (elim b as (λ x. spec.SaidCase) [
      | true ↦ record { defined = true; arm = arm_of (same_bits (in_context (widest ls) (all_signed ls) (constant subject (named env)))) (widest ls) (all_signed ls) env arms; faults = label_faults ls ++ own_faults ls }
      | false ↦ no_case ((label_faults ls ++ own_faults ls) ++ unknown_all ls)
    ])
    by true e = cc
    by false e = is

-- ---- a label by itself

abbrev alone : ℕ → Typed → Label
alone place t = record { place = place; typed = t }

pub own_bad : (place : ℕ) (t : Typed) → t.good ≡ false → None ≡ least (own_unknown (alone place t))
own_bad place t h = by t.good h
  where
    by : (b : Bool) → b ≡ false → None ≡ least (elim b as (λ x. List Fault) [ true ↦ spec.unknown_fault place (constant_value t.expression) | false ↦ [] ])
    by true e = cc
    by false e = refl

pub own_good : (place : ℕ) (t : Typed) (r : Option Fault) → t.good ≡ true → r ≡ least (spec.unknown_fault place (constant_value t.expression)) → r ≡ least (own_unknown (alone place t))
own_good place t r h k = by t.good h
  where
    by : (b : Bool) → b ≡ true → r ≡ least (elim b as (λ x. List Fault) [ true ↦ spec.unknown_fault place (constant_value t.expression) | false ↦ [] ])
    by true e = k
    by false e = cc

-- ---- the arm

-- behind so many arms
abbrev pub shifted : ℕ → Option ℕ → Option ℕ
shifted k None = None
shifted k (Some j) = Some (k + j)

abbrev behind : Option ℕ → Option ℕ
behind None = None
behind (Some k) = Some (suc k)

module _ (is_value : BitList → Bool) (w : ℕ) (s : Bool) (env : Env) where
  arm_none : (labels : List tree.Expr) (block : tree.GenerateBlock) (rest : tree.GenerateArms) → has_value is_value w s env labels ≡ false
      → arm_of is_value w s env (tree.AndGenerateArm labels block rest) ≡ behind (arm_of is_value w s env rest)
  arm_none labels block rest h = by (arm_of is_value w s env rest) refl
    where
      by : (o : Option ℕ) → arm_of is_value w s env rest ≡ o → arm_of is_value w s env (tree.AndGenerateArm labels block rest) ≡ behind o
      by None e = rw (h, e) refl
      by (Some k) e = rw (h, e) refl

  arm_some : (labels : List tree.Expr) (block : tree.GenerateBlock) (rest : tree.GenerateArms) → has_value is_value w s env labels ≡ true
      → arm_of is_value w s env (tree.AndGenerateArm labels block rest) ≡ Some 0
  arm_some labels block rest h = rw h refl

  shift : (k : ℕ) (o : Option ℕ) → shifted k (behind o) ≡ shifted (suc k) o
  shift k None = refl
  shift k (Some j) = ap Some (let e : k + suc j ≡ suc k + j = omega arith in e)

  pub arm_start : (arms : List GenerateArm) → arm_of is_value w s env (view.generate_arms arms) ≡ shifted 0 (arm_of is_value w s env (view.generate_arms arms))
  arm_start arms = by (arm_of is_value w s env (view.generate_arms arms))
    where
      by : (o : Option ℕ) → o ≡ shifted 0 o
      by None = refl
      by (Some j) = ap Some (let e : j ≡ 0 + j = omega arith in e)

  pub arm_next : (arms : List GenerateArm) (i : ℕ) (a : GenerateArm) (all : Option ℕ) → i < length arms → a ≡ get_or arms i a → all ≡ shifted i (arm_of is_value w s env (view.generate_arms (drop i arms)))
      → has_value is_value w s env (map view.expr a.labels.items) ≡ false → all ≡ shifted (suc i) (arm_of is_value w s env (view.generate_arms (drop (suc i) arms)))
  arm_next arms i a all h e before none =
      before ∙ ap (λ (x : List GenerateArm). shifted i (arm_of is_value w s env (view.generate_arms x))) (from_place arms i a h e)
      ∙ ap (shifted i) (arm_none (map view.expr a.labels.items) (view.block a.block) (view.generate_arms (drop (suc i) arms)) none)
      ∙ shift i (arm_of is_value w s env (view.generate_arms (drop (suc i) arms)))

  pub arm_here : (arms : List GenerateArm) (i : ℕ) (a : GenerateArm) (all : Option ℕ) → i < length arms → a ≡ get_or arms i a → all ≡ shifted i (arm_of is_value w s env (view.generate_arms (drop i arms)))
      → has_value is_value w s env (map view.expr a.labels.items) ≡ true → Some i ≡ all
  arm_here arms i a all h e before found =
      sym (before ∙ ap (λ (x : List GenerateArm). shifted i (arm_of is_value w s env (view.generate_arms x))) (from_place arms i a h e)
      ∙ ap (shifted i) (arm_some (map view.expr a.labels.items) (view.block a.block) (view.generate_arms (drop (suc i) arms)) found)
      ∙ ap Some (let z : i + 0 ≡ i = omega arith in z))

  pub arm_end : (arms : List GenerateArm) (i : ℕ) (all : Option ℕ) → length arms ≤ i → all ≡ shifted i (arm_of is_value w s env (view.generate_arms (drop i arms))) → None ≡ all
  arm_end arms i all h before = sym (before ∙ ap (λ (x : List GenerateArm). shifted i (arm_of is_value w s env (view.generate_arms x))) (none_left arms i h))

-- ---- the code's case

-- the faults in the common length and sign
pub unknown_is : (w : ℕ) (s : Bool) (l : Label) (rest ls : List Label) (a b o : Option Fault) → ls ≡ l ∷ rest → widest ls ≡ w → s ≡ all_signed ls → a ≡ least (unknown_in w s l) → b ≡ least (flat_map (unknown_in w s) rest)
    → o ≡ better a b → o ≡ least (flat_map (unknown_in (widest ls) (all_signed ls)) ls)
unknown_is w s l rest ls a b o e h k x y z =
    z ∙ ap (λ (q : Option Fault). better q b) x ∙ ap (better (least (unknown_in w s l))) y ∙ sym (least_append (unknown_in w s l) (flat_map (unknown_in w s) rest))
    ∙ ap (λ (q : List Label). least (flat_map (unknown_in w s) q)) (sym e)
    ∙ ap (λ (q : ℕ). least (flat_map (unknown_in q s) ls)) (sym h) ∙ ap (λ (q : Bool). least (flat_map (unknown_in (widest ls) q) ls)) k

-- what is known where all labels have values
pub record HaveValues (all : Labels) (env : Env) (subject : tree.Expr) (arms : tree.GenerateArms) : Type 0 where
  pub width : widest (case_labels env subject arms) ≡ all.width
  pub most : all.width ≤ 64
  pub subject_fits : IsFit all.width env subject
  pub arms_fit : AreFitArms all.width env arms

pub have_values : (all : Labels) (env : Env) (subject : tree.Expr) (arms : tree.GenerateArms) → IsExpr subject → AreGenerateArms arms → AreLabels all (case_labels env subject arms) → all.good ≡ true → HaveValues all env subject arms
have_values all env subject arms x y h g =
    let good : all_good (case_labels env subject arms) ≡ true = sym h.good ∙ g in
    let few : widest (case_labels env subject arms) ≤ 64 = narrow env (subject ∷ labels_of arms) good in
    let k = both_true (constant subject (named env)).good (all_good (map (label_of env) (labels_of arms))) good in
    let w : widest (case_labels env subject arms) ≡ all.width = let e = h.width in omega (arith, e, few) in
    record {
      width = w;
      most = omega (arith, few, w);
      subject_fits = record { shaped = x; good = k.0; fits = omega (arith, w) };
      arms_fit = fit_arms all.width env arms y k.1 (omega (arith, w));
    }
