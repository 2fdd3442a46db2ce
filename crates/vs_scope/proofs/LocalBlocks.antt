-- What the named blocks of a statement declare, as the code goes through it.
use Rattle.std.proofs.Common.{◌≡◌, ℕ, List, ◌++◌, Option, Some, None, Vec, Box, Global, sym, ap, ◌∙◌, append_assoc}
use Rattle.std.proofs.lemmas.List.{append-nil}
use Rattle.vs_base.specs.declared.events.CaseKind.{CaseKind}
use Rattle.vs_ast.specs.declared.expressions.Expr.{Expr}
use Rattle.vs_ast.specs.declared.types.BlockScope.{BlockScope}
use Rattle.vs_ast.specs.declared.statements.CaseArm.{CaseArm}
use Rattle.vs_ast.specs.declared.statements.Statement.{Statement, Case, Sequence}
use Rattle.vs_ast.specs.Views as view
use Rattle.vs_bodies.proofs.Walking.{case_alone_view, case_default_view, sequence_view}
use Rattle.vs_elaborated.specs.Statements.{Local, scope_locals}
use Rattle.vs_elaborated.specs.Functions.{variables_of, block_locals, sequence_locals, arms_locals}
use Rattle.vs_elaborated.specs.Uses.{is_variable_among}

abbrev of_block : Statement → List Local
of_block s = block_locals (view.statement s)

abbrev of_arms : List CaseArm → List Local
of_arms list = arms_locals (view.arms list)

-- the second of two parts, behind the first
pub both_behind : (before middle first second whole : List Local) → middle ≡ before ++ first → first ++ second ≡ whole → middle ++ second ≡ before ++ whole
both_behind before middle first second whole h e = ap (λ (x : List Local). x ++ second) h ∙ append_assoc before first second ∙ ap (λ (x : List Local). before ++ x) e

pub case_declares : (s : Statement) (place : ℕ) (kind : CaseKind) (e : Expr) (list : Vec CaseArm Global) (o : Option (Box Statement Global)) (xs : List CaseArm) → s ≡ Case place kind e list o → o ≡ None → xs ≡ list.items
    → of_arms xs ≡ of_block s
case_declares s place kind e list o xs h k m =
    ap of_arms m ∙ sym (append-nil (of_arms list.items))
    ∙ sym (ap block_locals (ap view.statement h ∙ ap (λ (q : Option (Box Statement Global)). view.statement (Case place kind e list q)) k ∙ case_alone_view place kind e list))

pub default_declares : (s : Statement) (place : ℕ) (kind : CaseKind) (e : Expr) (list : Vec CaseArm Global) (q : Box Statement Global) (o : Option (Box Statement Global)) (xs : List CaseArm) (y : Statement)
    → s ≡ Case place kind e list o → o ≡ Some q → xs ≡ list.items → y ≡ q.value → of_arms xs ++ of_block y ≡ of_block s
default_declares s place kind e list q o xs y h k m n =
    ap (λ (z : List CaseArm). of_arms z ++ of_block y) m ∙ ap (λ (z : Statement). of_arms list.items ++ of_block z) n
    ∙ sym (ap block_locals (ap view.statement h ∙ ap (λ (r : Option (Box Statement Global)). view.statement (Case place kind e list r)) k ∙ case_default_view place kind e list q))

pub sequence_declares : (s : Statement) (place : ℕ) (scope : Option BlockScope) (list : Vec Statement Global) (xs : List Statement) → s ≡ Sequence place scope list → xs ≡ list.items
    → variables_of (is_variable_among (view.statements xs)) (scope_locals (view.option view.block_scope scope)) ++ sequence_locals (view.statements xs) ≡ of_block s
sequence_declares s place scope list xs h m =
    ap (λ (z : List Statement). variables_of (is_variable_among (view.statements z)) (scope_locals (view.option view.block_scope scope)) ++ sequence_locals (view.statements z)) m ∙ sym (ap block_locals (ap view.statement h ∙ sequence_view place scope list))
