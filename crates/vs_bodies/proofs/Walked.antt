-- What the code gathers of a statement's parts is what is told of the statement.
use Rattle.std.proofs.Common.{◌≡◌, ℕ, ◌-◌, ◌<◌, Bool, false, List, [], ◌∷◌, Option, Some, None, Vec, Box, Global, Result, Ok, Err, IfOk, IfErr, sym, ap, ◌∙◌, subst, arith}
use Rattle.vs_base.specs.declared.events.CaseKind.{CaseKind}
use Rattle.vs_grammar.specs.Trees as tree
use Rattle.vs_grammar.specs.Shapes.{Each, OneOrMore}
use Rattle.vs_ast.proofs.statements.Statement.TheLaws.{the_size}
use Rattle.vs_ast.specs.declared.expressions.Expr.{Expr}
use Rattle.vs_ast.specs.declared.types.BlockScope.{BlockScope}
use Rattle.vs_ast.specs.declared.statements.CaseArm.{CaseArm}
use Rattle.vs_ast.specs.declared.statements.Statement.{Statement, If, Case, Sequence}
use Rattle.vs_ast.specs.Views as view
use Rattle.vs_const.specs.Faults.{least}
use Rattle.vs_const.specs.Meanings.{Find}
use Rattle.vs_const.specs.Expressions.{typed}
use Rattle.vs_elaborated.specs.Statements.{Body, scope_locals, scoped, local_faults}
use Rattle.vs_bodies.specs.declared.told.Told.{Told}
use Rattle.vs_bodies.specs.Told.{broken, nothing, joined, one, told_value, tells, tells_other, tells_sequence, tells_arms, Stop, Over}
use Rattle.vs_bodies.proofs.Joins.{count_of}
use Rattle.vs_bodies.proofs.Walking.{if_alone_view, if_else_view, if_view, case_alone_view, case_default_view, case_view, sequence_view}

-- ---- results

pub told_as : (r : Result Told Stop) (x y : Told) → x ≡ y → IfOk r (λ w. w ≡ x) → IfOk r (λ w. w ≡ y)
told_as r x y e h = subst (λ z. IfOk r (λ w. w ≡ z)) e h

pub over_as : (r : Result Told Stop) (left : ℕ) (x y : Told) → x ≡ y → IfErr r (λ e. e ≡ Over → left < x.count) → IfErr r (λ e. e ≡ Over → left < y.count)
over_as r left x y e h = subst (λ z. IfErr r (λ s. s ≡ Over → left < z.count)) e h

pub over_of : (r : Result Told Stop) (left : ℕ) (x y : Told) → (left < x.count → left < y.count) → IfErr r (λ e. e ≡ Over → left < x.count) → IfErr r (λ e. e ≡ Over → left < y.count)
over_of (Ok w) left x y f h = h
over_of (Err e) left x y f h = λ k. f (h k)

-- what follows where a part stops
pub over_then : (e : Stop) (m n left whole : ℕ) → (m < n → left < whole) → (e ≡ Over → m < n) → e ≡ Over → left < whole
over_then e m n left whole f h k = f (h k)

-- a statement by itself, behind what is said of its parts
pub alone_over : (left : ℕ) (x o whole : Told) → whole ≡ joined x o → left < o.count → left < whole.count
alone_over left x o whole e h = let n = count_of whole x o e in omega (arith, n, h)

-- ---- a statement of three parts

-- the expression and the statement itself, and what comes first
pub three_told : (said first second both third sum v o a b whole : Told) → said ≡ v → first ≡ joined said o → second ≡ a → both ≡ joined first second → third ≡ b → sum ≡ joined both third
    → whole ≡ joined (joined (joined v o) a) b → sum ≡ whole
three_told said first second both third sum v o a b whole e f g h k l w =
    l ∙ ap (λ z. joined z third) (h ∙ ap (λ z. joined z second) (f ∙ ap (λ z. joined z o) e) ∙ ap (joined (joined v o)) g) ∙ ap (joined (joined (joined v o) a)) k ∙ sym w

pub first_over : (left : ℕ) (v o a b whole : Told) → left < o.count → whole ≡ joined (joined (joined v o) a) b → left < whole.count
first_over left v o a b whole h w = let n = count_of whole (joined (joined v o) a) b w in omega (arith, n, h)

pub second_over : (left : ℕ) (said first v o a b whole : Told) → said ≡ v → first ≡ joined said o → left - first.count < a.count → whole ≡ joined (joined (joined v o) a) b → left < whole.count
second_over left said first v o a b whole e f h w =
    let n = count_of whole (joined (joined v o) a) b w in
    let m = count_of first v o (f ∙ ap (λ z. joined z o) e) in
    omega (arith, n, m, h)

pub third_over : (left : ℕ) (said first second both v o a b whole : Told) → said ≡ v → first ≡ joined said o → second ≡ a → both ≡ joined first second → left - both.count < b.count → whole ≡ joined (joined (joined v o) a) b → left < whole.count
third_over left said first second both v o a b whole e f g h k w =
    let n = count_of whole (joined (joined v o) a) b w in
    let m = count_of both (joined v o) a (h ∙ ap (λ z. joined z second) (f ∙ ap (λ z. joined z o) e) ∙ ap (joined (joined v o)) g) in
    omega (arith, n, m, k)

-- ---- what is told of each kind of statement

module _ (b : Bool) (body : Body) (find : Find) (s : Statement) where
  pub if_tells : (place : ℕ) (c : Expr) (p : Box Statement Global) (o : Option (Box Statement Global)) → s ≡ If place c p o
      → (rest : Told) × (tells b (view.statement s) body find ≡ joined (joined (joined (told_value (typed (view.expr c) find false)) (one b)) (tells b (view.statement p.value) body find)) rest)
  if_tells place c p o e = let v = if_view place c p o in (tells_other b v.0 body find, ap (λ x. tells b x body find) (ap view.statement e ∙ v.1))

  pub if_alone_tells : (place : ℕ) (c : Expr) (p : Box Statement Global) (o : Option (Box Statement Global)) → s ≡ If place c p o → o ≡ None
      → tells b (view.statement s) body find ≡ joined (joined (joined (told_value (typed (view.expr c) find false)) (one b)) (tells b (view.statement p.value) body find)) nothing
  if_alone_tells place c p o e h = ap (λ x. tells b x body find) (ap view.statement e ∙ ap (λ q. view.statement (If place c p q)) h ∙ if_alone_view place c p)

  pub if_else_tells : (place : ℕ) (c : Expr) (p q : Box Statement Global) (o : Option (Box Statement Global)) → s ≡ If place c p o → o ≡ Some q
      → tells b (view.statement s) body find ≡ joined (joined (joined (told_value (typed (view.expr c) find false)) (one b)) (tells b (view.statement p.value) body find)) (tells b (view.statement q.value) body find)
  if_else_tells place c p q o e h = ap (λ x. tells b x body find) (ap view.statement e ∙ ap (λ r. view.statement (If place c p r)) h ∙ if_else_view place c p q)

  pub case_tells : (place : ℕ) (kind : CaseKind) (e : Expr) (list : Vec CaseArm Global) (o : Option (Box Statement Global)) → s ≡ Case place kind e list o
      → (rest : Told) × (tells b (view.statement s) body find ≡ joined (joined (joined (told_value (typed (view.expr e) find false)) (one b)) (tells_arms b (view.arms list.items) body find)) rest)
  case_tells place kind e list o h = let v = case_view place kind e list o in (tells_other b v.0 body find, ap (λ x. tells b x body find) (ap view.statement h ∙ v.1))

  pub case_alone_tells : (place : ℕ) (kind : CaseKind) (e : Expr) (list : Vec CaseArm Global) (o : Option (Box Statement Global)) → s ≡ Case place kind e list o → o ≡ None
      → tells b (view.statement s) body find ≡ joined (joined (joined (told_value (typed (view.expr e) find false)) (one b)) (tells_arms b (view.arms list.items) body find)) nothing
  case_alone_tells place kind e list o h k = ap (λ x. tells b x body find) (ap view.statement h ∙ ap (λ q. view.statement (Case place kind e list q)) k ∙ case_alone_view place kind e list)

  pub case_default_tells : (place : ℕ) (kind : CaseKind) (e : Expr) (list : Vec CaseArm Global) (q : Box Statement Global) (o : Option (Box Statement Global)) → s ≡ Case place kind e list o → o ≡ Some q
      → tells b (view.statement s) body find ≡ joined (joined (joined (told_value (typed (view.expr e) find false)) (one b)) (tells_arms b (view.arms list.items) body find)) (tells b (view.statement q.value) body find)
  case_default_tells place kind e list q o h k = ap (λ x. tells b x body find) (ap view.statement h ∙ ap (λ r. view.statement (Case place kind e list r)) k ∙ case_default_view place kind e list q)

  pub plain_tells : (place : ℕ) (scope : Option BlockScope) (list : Vec Statement Global) → s ≡ Sequence place scope list → scope ≡ None
      → tells b (view.statement s) body find ≡ tells_sequence b (view.statements list.items) body find
  plain_tells place scope list e h =
      ap (λ x. tells b x body find) (ap view.statement e ∙ sequence_view place scope list ∙ ap (λ o. tree.Sequence place (view.option view.block_scope o) (view.statements list.items)) h)

  pub block_tells : (place : ℕ) (scope : Option BlockScope) (x : BlockScope) (list : Vec Statement Global) → s ≡ Sequence place scope list → scope ≡ Some x
      → tells b (view.statement s) body find
      ≡ joined (broken (least (local_faults body (scope_locals (Some (view.block_scope x))))) 0) (tells_sequence b (view.statements list.items) body (scoped body.declared (scope_locals (Some (view.block_scope x))) find))
  block_tells place scope x list e h =
      ap (λ y. tells b y body find) (ap view.statement e ∙ sequence_view place scope list ∙ ap (λ o. tree.Sequence place (view.option view.block_scope o) (view.statements list.items)) h)

-- ---- parts are smaller

pub falls : (s x whole part : Statement) → the_size part < the_size whole → s ≡ whole → x ≡ part → the_size x < the_size s
falls s x whole part h e k = subst (λ z. the_size x < the_size z) (sym e) (subst (λ z. the_size z < the_size whole) (sym k) h)

-- ---- labels

-- where there is one, each is so
pub one_each : {A : Type 0} (P : A → Type 0) (xs : List A) → OneOrMore P xs → Each P xs
one_each P [] h = absurd h
one_each P (x ∷ xs) h = h
