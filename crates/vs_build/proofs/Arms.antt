-- The arms of the recursion over an expression.
use Rattle.std.proofs.Common.{◌≡◌, ℕ, ◌+◌, ◌≤◌, Bool, true, [], ◌∷◌, max, None, Result, Ok, Err, OnOk, refl, sym, ap, ◌∙◌, subst, arith}
use Rattle.vs_design.specs.Expressions as E
use Rattle.vs_design.specs.Expressions.{Expression}
use Rattle.vs_design.specs.Designs.{Design}
use Rattle.vs_ast.specs.declared.expressions.Expr.{Expr}
use Rattle.vs_ast.specs.Views as view
use Rattle.vs_base.specs.declared.operators.UnaryOp.{UnaryOp}
use Rattle.vs_base.specs.declared.operators.BinaryOp.{BinaryOp}
use Rattle.vs_grammar.specs.Depths.{expr_depth}
use Rattle.vs_grammar.specs.Trees as tree
use Rattle.vs_grammar.specs.Trees.{expr_place}
use Rattle.vs_const.specs.Meanings.{Find, steady}
use Rattle.vs_const.specs.Typed.{Typed, begins_at, noted, unary_typed, binary_typed, choice_typed}
use Rattle.vs_const.specs.Expressions.{typed, selected, typed_parts, typed_arguments, applied, replication_typed, call_typed, argument_needed}
use Rattle.vs_const.proofs.Formed.{both_nil}
use Rattle.vs_build.specs.Drafts.{Draft, home, EndsWith, AddsExpression}
use Rattle.vs_build.specs.Buildable.{IsBuildable}
use Rattle.vs_build.proofs.Steps.{added_two, added_three}

-- ---- where an expression begins

pub begins_twice : (p q : ℕ) (e : Expression) → begins_at p (begins_at q e) ≡ begins_at p e
begins_twice p q (E.Literal bits signed sized) = refl
begins_twice p q (E.Name signal) = refl
begins_twice p q (E.Select source part index) = refl
begins_twice p q (E.Word signal index) = refl
begins_twice p q (E.WordPart signal address part index) = refl
begins_twice p q (E.Unary op a) = refl
begins_twice p q (E.Binary op a b) = refl
begins_twice p q (E.Choice c a b) = refl
begins_twice p q (E.Join a b) = refl
begins_twice p q (E.Repeat n a) = refl
begins_twice p q (E.At r e) = refl
begins_twice p q (E.Call header statement arguments) = refl

pub begins_itself : (e : tree.Expr) (find : Find) (needed : Bool) → begins_at (expr_place e) (typed e find needed).expression ≡ (typed e find needed).expression
begins_itself (tree.Number n) find needed = refl
begins_itself (tree.Named name select) find needed = begins_twice name.place name.place (selected select name find needed).expression
begins_itself (tree.Apply name arguments) find needed = begins_twice name.place name.place (applied needed name.place (find name.bytes) (typed_arguments arguments find needed)).expression
begins_itself (tree.Unary place op a) find needed = refl
begins_itself (tree.Binary op a b) find needed = refl
begins_itself (tree.Choice c p q) find needed = refl
begins_itself (tree.Concatenation place parts) find needed = refl
begins_itself (tree.Replication place count parts) find needed = begins_twice place place (replication_typed (expr_place count) (typed count (steady find) true) (typed_parts parts find needed)).expression
begins_itself (tree.Call place function a) find needed = begins_twice place place (call_typed function (expr_place a) (typed a find (argument_needed function needed))).expression
begins_itself (tree.Brackets place e) find needed = begins_twice place place (typed e find needed).expression

-- ---- what was added is at the end

pub ends_one : (s v : Draft) (t : Expression) (m : ℕ) → AddsExpression s v t m → m ≤ 254 → EndsWith 1 v
ends_one s v t m h few = record { before = s; last = record { tree = t; levels = h.levels } ∷ []; is = h.is; many = refl; few = omega (arith, h.few, few) }

pub ends_two : (s r v : Draft) (t u : Expression) (m n : ℕ) → AddsExpression s r t m → AddsExpression r v u n → m ≤ 254 → n ≤ 254 → EndsWith 2 v
ends_two s r v t u m n h k few more =
    record { before = s; last = record { tree = t; levels = h.levels } ∷ record { tree = u; levels = k.levels } ∷ []; is = added_two s r v t u m n h k; many = refl; few = omega (arith, h.few, k.few, few, more) }

pub ends_three : (s r q v : Draft) (t u w : Expression) (m n k : ℕ) → AddsExpression s r t m → AddsExpression r q u n → AddsExpression q v w k → m ≤ 254 → n ≤ 254 → k ≤ 254 → EndsWith 3 v
ends_three s r q v t u w m n k x y z few more most = record {
  before = s;
  last = record { tree = t; levels = x.levels } ∷ record { tree = u; levels = y.levels } ∷ record { tree = w; levels = z.levels } ∷ [];
  is = added_three s r q v t u w m n k x y z;
  many = refl;
  few = omega (arith, x.few, y.few, z.few, few, more, most);
}

pub same_design : (s v : Draft) (t : Expression) (m : ℕ) → AddsExpression s v t m → s.design ≡ v.design
same_design s v t m h = sym (ap (λ (d : Draft). d.design) h.is)

pub stays_outside : (s v : Draft) (t : Expression) (m : ℕ) → AddsExpression s v t m → s.function ≡ None → v.function ≡ None
stays_outside s v t m h e = ap (λ (d : Draft). d.function) h.is ∙ e

-- where the next one stands
pub same_home : (s v : Draft) (t : Expression) (m : ℕ) → AddsExpression s v t m → home s ≡ home v
same_home s v t m h = sym (ap home h.is)

-- what can be built can be built after another expression
pub after : (s v : Draft) (t : Expression) (m : ℕ) (find : Find) (needed : Bool) (e : tree.Expr) → AddsExpression s v t m → IsBuildable (home s) find needed e → IsBuildable (home v) find needed e
after s v t m find needed e h b = subst (λ d. IsBuildable d find needed e) (same_home s v t m h) b

-- on at most so many levels
pub up_to : (s v : Draft) (t : Expression) (m n : ℕ) → AddsExpression s v t m → m ≤ n → AddsExpression s v t n
up_to s v t m n h le = record { levels = h.levels; few = omega (arith, h.few, le); is = h.is }

-- ---- parts without a fault

pub noted_clean : (needed : Bool) (place : ℕ) (t : Typed) → (noted needed place t).faults ≡ [] → t.faults ≡ []
noted_clean needed place t h = (both_nil t.faults _ h).0

pub unary_operand : (d : Design) (find : Find) (needed : Bool) (place : ℕ) (op : tree.UnaryOp) (a : tree.Expr) → IsBuildable d find needed (tree.Unary place op a) → IsBuildable d find needed a
unary_operand d find needed place op a b = record { shaped = b.shaped; sound = b.sound; numbered = b.numbered; clean = noted_clean needed place (unary_typed op (typed a find needed)) b.clean; shallow = omega (arith, b.shallow) }

pub brackets_inner : (d : Design) (find : Find) (needed : Bool) (place : ℕ) (e : tree.Expr) → IsBuildable d find needed (tree.Brackets place e) → IsBuildable d find needed e
brackets_inner d find needed place e b = record { shaped = b.shaped; sound = b.sound; numbered = b.numbered; clean = noted_clean needed place (typed e find needed) b.clean; shallow = omega (arith, b.shallow) }

pub binary_left : (d : Design) (find : Find) (needed : Bool) (op : tree.BinaryOp) (a b : tree.Expr) → IsBuildable d find needed (tree.Binary op a b) → IsBuildable d find needed a
binary_left d find needed op a b h = record { shaped = h.shaped.0; sound = h.sound; numbered = h.numbered; clean = (both_nil _ _ (noted_clean needed (expr_place a) (binary_typed op (typed a find needed) (typed b find needed)) h.clean)).0; shallow = omega (arith, h.shallow) }

pub binary_right : (d : Design) (find : Find) (needed : Bool) (op : tree.BinaryOp) (a b : tree.Expr) → IsBuildable d find needed (tree.Binary op a b) → IsBuildable d find needed b
binary_right d find needed op a b h = record { shaped = h.shaped.1; sound = h.sound; numbered = h.numbered; clean = (both_nil (typed a find needed).faults _ (noted_clean needed (expr_place a) (binary_typed op (typed a find needed) (typed b find needed)) h.clean)).1; shallow = omega (arith, h.shallow) }

pub choice_condition : (d : Design) (find : Find) (needed : Bool) (c p q : tree.Expr) → IsBuildable d find needed (tree.Choice c p q) → IsBuildable d find needed c
choice_condition d find needed c p q h = record { shaped = h.shaped.0; sound = h.sound; numbered = h.numbered; clean = (both_nil _ _ (noted_clean needed (expr_place c) (choice_typed (typed c find needed) (typed p find needed) (typed q find needed)) h.clean)).0; shallow = omega (arith, h.shallow) }

pub choice_yes : (d : Design) (find : Find) (needed : Bool) (c p q : tree.Expr) → IsBuildable d find needed (tree.Choice c p q) → IsBuildable d find needed p
choice_yes d find needed c p q h = record {
  shaped = h.shaped.1;
  sound = h.sound;
  numbered = h.numbered;
  clean = (both_nil (typed p find needed).faults (typed q find needed).faults (both_nil (typed c find needed).faults _ (noted_clean needed (expr_place c) (choice_typed (typed c find needed) (typed p find needed) (typed q find needed)) h.clean)).1).0;
  shallow = omega (arith, h.shallow);
}

pub choice_no : (d : Design) (find : Find) (needed : Bool) (c p q : tree.Expr) → IsBuildable d find needed (tree.Choice c p q) → IsBuildable d find needed q
choice_no d find needed c p q h = record {
  shaped = h.shaped.2;
  sound = h.sound;
  numbered = h.numbered;
  clean = (both_nil (typed p find needed).faults (typed q find needed).faults (both_nil (typed c find needed).faults _ (noted_clean needed (expr_place c) (choice_typed (typed c find needed) (typed p find needed) (typed q find needed)) h.clean)).1).1;
  shallow = omega (arith, h.shallow);
}

-- ---- the arms

pub ok_up_to : {U F : Type 0} (r : Result U F) (s v : Draft) (t : Expression) (m n : ℕ) → OnOk r (AddsExpression s v t m) → m ≤ n → OnOk r (AddsExpression s v t n)
ok_up_to (Ok u) s v t m n h le = up_to s v t m n h le
ok_up_to (Err e) s v t m n h le = tt

pub child : (d : Design) (find : Find) (needed : Bool) (x a : Expr) → x ≡ a → IsBuildable d find needed (view.expr a) → IsBuildable d find needed (view.expr x)
child d find needed x a e b = subst (λ y. IsBuildable d find needed (view.expr y)) (sym e) b

pub child_ends : (d : Design) (find : Find) (needed : Bool) (e : tree.Expr) (s v : Draft) → IsBuildable d find needed e → AddsExpression s v (typed e find needed).expression (1 + expr_depth e) → EndsWith 1 v
child_ends d find needed e s v b h = ends_one s v (typed e find needed).expression (1 + expr_depth e) h (omega (arith, b.shallow))

pub children_end : (d : Design) (find : Find) (needed : Bool) (e f : tree.Expr) (s r v : Draft) → IsBuildable d find needed e → IsBuildable d find needed f → AddsExpression s r (typed e find needed).expression (1 + expr_depth e)
    → AddsExpression r v (typed f find needed).expression (1 + expr_depth f) → EndsWith 2 v
children_end d find needed e f s r v b c h k = ends_two s r v (typed e find needed).expression (typed f find needed).expression (1 + expr_depth e) (1 + expr_depth f) h k (omega (arith, b.shallow)) (omega (arith, c.shallow))

pub unary_arm : {U F : Type 0} (r : Result U F) (s v new : Draft) (find : Find) (needed : Bool) (at : ℕ) (op : E.UnaryOp) (a x : Expr) → x ≡ a
    → AddsExpression s v (typed (view.expr x) find needed).expression (1 + expr_depth (view.expr x))
    → ((q : Draft) (t : Expression) (m : ℕ) → AddsExpression q v t m → OnOk r (AddsExpression q new (E.At at (E.Unary op t)) (1 + m)))
    → OnOk r (AddsExpression s new (E.At at (E.Unary op (typed (view.expr a) find needed).expression)) (1 + (1 + expr_depth (view.expr a))))
unary_arm r s v new find needed at op a x e h f =
    subst (λ y. OnOk r (AddsExpression s new (E.At at (E.Unary op (typed (view.expr y) find needed).expression)) (1 + (1 + expr_depth (view.expr y))))) e
    (f s (typed (view.expr x) find needed).expression (1 + expr_depth (view.expr x)) h)

pub binary_arm : {U F : Type 0} (r : Result U F) (s q v new : Draft) (find : Find) (needed : Bool) (at : ℕ) (op : BinaryOp) (a b x y : Expr) → x ≡ a → y ≡ b
    → AddsExpression s q (typed (view.expr x) find needed).expression (1 + expr_depth (view.expr x)) → AddsExpression q v (typed (view.expr y) find needed).expression (1 + expr_depth (view.expr y))
    → ((p k : Draft) (t u : Expression) (m n : ℕ) → AddsExpression p k t m → AddsExpression k v u n → OnOk r (AddsExpression p new (E.At at (E.Binary op t u)) (1 + max m n)))
    → OnOk r (AddsExpression s new (E.At at (E.Binary op (typed (view.expr a) find needed).expression (typed (view.expr b) find needed).expression)) (1 + (1 + max (expr_depth (view.expr a)) (expr_depth (view.expr b)))))
binary_arm r s q v new find needed at op a b x y e f h k g =
    let P = λ (c d : Expr). OnOk r (AddsExpression s new (E.At at (E.Binary op (typed (view.expr c) find needed).expression (typed (view.expr d) find needed).expression)) (1 + (1 + max (expr_depth (view.expr c)) (expr_depth (view.expr d))))) in
    let here : P x y =
    (ok_up_to r s new _ (1 + max (1 + expr_depth (view.expr x)) (1 + expr_depth (view.expr y))) (1 + (1 + max (expr_depth (view.expr x)) (expr_depth (view.expr y))))
    (g s q (typed (view.expr x) find needed).expression (typed (view.expr y) find needed).expression (1 + expr_depth (view.expr x)) (1 + expr_depth (view.expr y)) h k) (omega arith))
    in
    subst (λ d. P a d) f (subst (λ c. P c y) e here)

pub choice_arm : {U F : Type 0} (r : Result U F) (s q w v new : Draft) (find : Find) (needed : Bool) (at : ℕ) (a b c x y z : Expr) → x ≡ a → y ≡ b → z ≡ c
    → AddsExpression s q (typed (view.expr x) find needed).expression (1 + expr_depth (view.expr x)) → AddsExpression q w (typed (view.expr y) find needed).expression (1 + expr_depth (view.expr y))
    → AddsExpression w v (typed (view.expr z) find needed).expression (1 + expr_depth (view.expr z))
    → ((o p k : Draft) (t u i : Expression) (m n j : ℕ) → AddsExpression o p t m → AddsExpression p k u n → AddsExpression k v i j → OnOk r (AddsExpression o new (E.At at (E.Choice t u i)) (1 + max m (max n j))))
    → OnOk r (AddsExpression s new (E.At at (E.Choice (typed (view.expr a) find needed).expression (typed (view.expr b) find needed).expression (typed (view.expr c) find needed).expression))
    (1 + (1 + max (expr_depth (view.expr a)) (max (expr_depth (view.expr b)) (expr_depth (view.expr c))))))
choice_arm r s q w v new find needed at a b c x y z e f i h k l g =
    let t = λ (d : Expr). (typed (view.expr d) find needed).expression in
    let n = λ (d : Expr). expr_depth (view.expr d) in
    let P = λ (o p u : Expr). OnOk r (AddsExpression s new (E.At at (E.Choice (typed (view.expr o) find needed).expression (typed (view.expr p) find needed).expression (typed (view.expr u) find needed).expression)) (1 + (1 + max (expr_depth (view.expr o)) (max (expr_depth (view.expr p)) (expr_depth (view.expr u)))))) in
    let here : P x y z =
    ok_up_to r s new _ (1 + max (1 + n x) (max (1 + n y) (1 + n z))) (1 + (1 + max (n x) (max (n y) (n z)))) (g s q w (t x) (t y) (t z) (1 + n x) (1 + n y) (1 + n z) h k l) (omega arith)
    in
    subst (λ u. P a b u) i (subst (λ p. P a p z) f (subst (λ o. P o y z) e here))
