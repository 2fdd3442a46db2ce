-- What each kind of statement uses, as the code goes through it.
use Rattle.std.proofs.Common.{◌≡◌, ℕ, Bool, true, false, not, ◌&&◌, ◌||◌, List, Option, Some, None, Vec, Box, Global, refl, sym, ap, ◌∙◌}
use Rattle.vs_base.specs.declared.events.CaseKind.{CaseKind}
use Rattle.vs_ast.specs.declared.expressions.Expr.{Expr}
use Rattle.vs_ast.specs.declared.types.BlockScope.{BlockScope}
use Rattle.vs_ast.specs.declared.statements.CaseArm.{CaseArm}
use Rattle.vs_ast.specs.declared.statements.Statement.{Statement, Case, Sequence}
use Rattle.vs_ast.specs.Views as view
use Rattle.vs_elaborated.specs.Uses as spec
use Rattle.vs_bodies.proofs.Walking.{case_alone_view, case_default_view, sequence_view}

either : (a b : Bool) → a ≡ true → true ≡ (a || b)
either true b h = refl
either false b h = cc

neither : (a b c : Bool) → a ≡ false → c ≡ b → c ≡ (a || b)
neither true b c h k = cc
neither false b c h k = k

or_none : (a : Bool) → a ≡ false → false ≡ (a || false)
or_none true h = cc
or_none false h = refl

module _ (as_head : Bool) (name : List ℕ) where
  abbrev of_statement : Statement → Bool
  of_statement s = spec.uses as_head name (view.statement s)

  abbrev of_arms : List CaseArm → Bool
  of_arms xs = spec.uses_arms as_head name (view.arms xs)

  -- an arm does
  case_of_arms : (place : ℕ) (kind : CaseKind) (e : Expr) (list : Vec CaseArm Global) (o : Option (Box Statement Global)) → of_arms list.items ≡ true → true ≡ of_statement (Case place kind e list o)
  case_of_arms place kind e list None h = either (of_arms list.items) false h ∙ sym (ap (spec.uses as_head name) (case_alone_view place kind e list))
  case_of_arms place kind e list (Some q) h = either (of_arms list.items) (of_statement q.value) h ∙ sym (ap (spec.uses as_head name) (case_default_view place kind e list q))

  pub case_uses : (s : Statement) (place : ℕ) (kind : CaseKind) (e : Expr) (list : Vec CaseArm Global) (o : Option (Box Statement Global)) (xs : List CaseArm) → s ≡ Case place kind e list o → xs ≡ list.items → of_arms xs ≡ true → true ≡ of_statement s
  case_uses s place kind e list o xs h m u = case_of_arms place kind e list o (sym (ap of_arms m) ∙ u) ∙ sym (ap of_statement h)

  -- no arm does, and there is no default
  pub alone_uses : (s : Statement) (place : ℕ) (kind : CaseKind) (e : Expr) (list : Vec CaseArm Global) (o : Option (Box Statement Global)) (xs : List CaseArm) → s ≡ Case place kind e list o → o ≡ None → xs ≡ list.items → of_arms xs ≡ false → false ≡ of_statement s
  alone_uses s place kind e list o xs h k m u =
      or_none (of_arms list.items) (sym (ap of_arms m) ∙ u)
      ∙ sym (ap (spec.uses as_head name) (ap view.statement h ∙ ap (λ (q : Option (Box Statement Global)). view.statement (Case place kind e list q)) k ∙ case_alone_view place kind e list))

  -- or else the default says
  pub default_uses : (s : Statement) (place : ℕ) (kind : CaseKind) (e : Expr) (list : Vec CaseArm Global) (q : Box Statement Global) (o : Option (Box Statement Global)) (xs : List CaseArm) (y : Statement) (b : Bool)
      → s ≡ Case place kind e list o → o ≡ Some q → xs ≡ list.items → y ≡ q.value → of_arms xs ≡ false → b ≡ of_statement y → b ≡ of_statement s
  default_uses s place kind e list q o xs y b h k m n u v =
      neither (of_arms list.items) (of_statement q.value) b (sym (ap of_arms m) ∙ u) (v ∙ ap of_statement n)
      ∙ sym (ap (spec.uses as_head name) (ap view.statement h ∙ ap (λ (r : Option (Box Statement Global)). view.statement (Case place kind e list r)) k ∙ case_default_view place kind e list q))

  hidden : (a b : Bool) → a ≡ true → false ≡ (not a && b)
  hidden true b h = refl
  hidden false b h = cc

  shown : (a b : Bool) → a ≡ false → b ≡ (not a && b)
  shown true b h = cc
  shown false b h = refl

  -- a block that declares the name, and one that doesn't
  pub hidden_uses : (s : Statement) (place : ℕ) (scope : Option BlockScope) (list : Vec Statement Global) → s ≡ Sequence place scope list → spec.hides name (view.option view.block_scope scope) ≡ true → false ≡ of_statement s
  hidden_uses s place scope list h u =
      hidden (spec.hides name (view.option view.block_scope scope)) (spec.uses_sequence as_head name (view.statements list.items)) u ∙ sym (ap (spec.uses as_head name) (ap view.statement h ∙ sequence_view place scope list))

  pub sequence_uses : (s : Statement) (place : ℕ) (scope : Option BlockScope) (list : Vec Statement Global) (xs : List Statement) (b : Bool) → s ≡ Sequence place scope list → xs ≡ list.items → spec.hides name (view.option view.block_scope scope) ≡ false
      → b ≡ spec.uses_sequence as_head name (view.statements xs) → b ≡ of_statement s
  sequence_uses s place scope list xs b h m u v =
      v ∙ ap (λ (z : List Statement). spec.uses_sequence as_head name (view.statements z)) m ∙ shown (spec.hides name (view.option view.block_scope scope)) (spec.uses_sequence as_head name (view.statements list.items)) u
      ∙ sym (ap (spec.uses as_head name) (ap view.statement h ∙ sequence_view place scope list))
