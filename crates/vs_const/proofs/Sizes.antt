-- A part of an expression is smaller than the expression, so a call on it ends.
use Rattle.std.proofs.Common.{rules, ◌≡◌, ℕ, ◌<◌, Box, Vec, Global, sym, subst}
use denote.Param.Weighed.{most}
use Rattle.vs_base.specs.declared.operators.UnaryOp.{UnaryOp}
use Rattle.vs_base.specs.declared.operators.BinaryOp.{BinaryOp}
use Rattle.vs_grammar.specs.Trees as tree
use Rattle.vs_ast.proofs.expressions.Expr.TheLaws.{the_size}
use Rattle.vs_ast.proofs.Rows.{expr_rows}
use Rattle.vs_ast.specs.declared.expressions.SystemFunction.{SystemFunction}
use Rattle.vs_ast.specs.declared.names.Name.{Name}
use Rattle.vs_ast.specs.declared.expressions.Expr.{Expr, Apply, Unary, Binary, Choice, Concatenation, Replication, Call, Brackets, the_lemmas}
use Rattle.vs_ast.specs.Views.{expr, exprs, name}

pub arguments_size : (n : Name) (list : Vec Expr Global) → most the_size list.items < the_size (Apply n list)
arguments_size n list = search (rules, the_lemmas)

pub unary_size : (place : ℕ) (op : UnaryOp) (a : Box Expr Global) → the_size a.value < the_size (Unary place op a)
unary_size place op a = search (rules, the_lemmas)

pub left_size : (op : BinaryOp) (a b : Box Expr Global) → the_size a.value < the_size (Binary op a b)
left_size op a b = search (rules, the_lemmas)

pub right_size : (op : BinaryOp) (a b : Box Expr Global) → the_size b.value < the_size (Binary op a b)
right_size op a b = search (rules, the_lemmas)

pub condition_size : (c p q : Box Expr Global) → the_size c.value < the_size (Choice c p q)
condition_size c p q = search (rules, the_lemmas)

pub yes_size : (c p q : Box Expr Global) → the_size p.value < the_size (Choice c p q)
yes_size c p q = search (rules, the_lemmas)

pub no_size : (c p q : Box Expr Global) → the_size q.value < the_size (Choice c p q)
no_size c p q = search (rules, the_lemmas)

pub parts_size : (place : ℕ) (list : Vec Expr Global) → most the_size list.items < the_size (Concatenation place list)
parts_size place list = search (rules, the_lemmas)

pub count_size : (place : ℕ) (n : Box Expr Global) (list : Vec Expr Global) → the_size n.value < the_size (Replication place n list)
count_size place n list = search (rules, the_lemmas)

pub copied_size : (place : ℕ) (n : Box Expr Global) (list : Vec Expr Global) → most the_size list.items < the_size (Replication place n list)
copied_size place n list = search (rules, the_lemmas)

pub call_size : (place : ℕ) (f : SystemFunction) (a : Box Expr Global) → the_size a.value < the_size (Call place f a)
call_size place f a = search (rules, the_lemmas)

pub brackets_size : (place : ℕ) (a : Box Expr Global) → the_size a.value < the_size (Brackets place a)
brackets_size place a = search (rules, the_lemmas)

-- the part x of e, by their forms
pub falls : (e x whole a : Expr) → the_size a < the_size whole → e ≡ whole → x ≡ a → the_size x < the_size e
falls e x whole a h k m = subst (λ z. the_size z < the_size e) (sym m) (subst (λ z. the_size a < the_size z) (sym k) h)

pub application_view : (n : Name) (list : Vec Expr Global) → expr (Apply n list) ≡ tree.Apply (name n) (exprs list.items)
application_view n list = search (rules, expr_rows, the_lemmas)

pub concatenation_view : (place : ℕ) (list : Vec Expr Global) → expr (Concatenation place list) ≡ tree.Concatenation place (exprs list.items)
concatenation_view place list = search (rules, expr_rows, the_lemmas)

pub replication_view : (place : ℕ) (n : Box Expr Global) (list : Vec Expr Global) → expr (Replication place n list) ≡ tree.Replication place (expr n.value) (exprs list.items)
replication_view place n list = search (rules, expr_rows, the_lemmas)
