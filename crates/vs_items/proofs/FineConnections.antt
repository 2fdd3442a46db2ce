-- Connections without a fault, of ports in their order or by their names.
use Rattle.std.proofs.Common.{◌≡◌, ◌≤◌, ◌<◌, ◌+◌, ℕ, zero, suc, Bool, true, false, List, [], ◌∷◌, length, get_or, map, Option, Some, None, if◌then◌else◌, refl, sym, subst, arith}
use Rattle.std.specs.Prelude.{slice_get}
use Rattle.vs_design.specs.Clocks.{same_name}
use Rattle.vs_grammar.specs.Trees as tree
use Rattle.vs_grammar.specs.Shapes.{Each, OneOrMore, Given, IsExpr, IsConnection, AreOrdered}
use Rattle.vs_grammar.specs.Depths.{deepest, option_depth, expr_depth, connection_depth}
use Rattle.vs_grammar.specs.Spelled.{depth_limit}
use Rattle.vs_ast.specs.declared.expressions.Expr.{Expr}
use Rattle.vs_ast.specs.Views as view
use Rattle.vs_const.proofs.Formed.{both_nil}
use Rattle.vs_elaborated.specs.Environments.{Env}
use Rattle.vs_elaborated.specs.Ports.{Port, find_port}
use Rattle.vs_elaborated.specs.Instances.{connected, connected_by_order, connected_by_name}
use Rattle.vs_maps.specs.Maps.{value_at}
use Rattle.vs_scope.proofs.Entries.{same_is}
use Rattle.vs_items.specs.Connections.{named_value}
use Rattle.vs_items.specs.Fine.{IsFineValue, AreFineOrdered, IsFineNamed}

-- ---- by order

fine_ordered : (ports : List Port) (n : ℕ) (env : Env) (es : List (Option tree.Expr)) → Each (Given IsExpr) es → deepest (option_depth expr_depth) es ≤ depth_limit
    → (connected_by_order ports n es env).faults ≡ [] → AreFineOrdered ports n env es
fine_ordered ports n env [] s d c = tt
fine_ordered ports n env (e ∷ es) s d c =
    let both = both_nil (connected (slice_get ports n) e env).faults (connected_by_order ports (suc n) es env).faults c in
    (record { shaped = s.0; clean = both.0; shallow = omega (arith, d) }, fine_ordered ports (suc n) env es s.1 (omega (arith, d)) both.1)

each_given : (es : List (Option tree.Expr)) → AreOrdered es → Each (Given IsExpr) es
each_given [] h = absurd h
each_given (None ∷ []) h = absurd h
each_given (None ∷ e ∷ es) h = h
each_given (Some e ∷ es) h = h

pub are_fine_ordered : (ports : List Port) (env : Env) (es : List (Option tree.Expr)) → AreOrdered es → deepest (option_depth expr_depth) es ≤ depth_limit
    → (connected_by_order ports 0 es env).faults ≡ [] → AreFineOrdered ports 0 env es
are_fine_ordered ports env es s d c = fine_ordered ports 0 env es (each_given es s) d c

get_ordered : (ports : List Port) (n : ℕ) (env : Env) (es : List (Option Expr)) (i : ℕ) (d : Option Expr) → i < length es → AreFineOrdered ports n env (map (view.option view.expr) es)
    → IsFineValue env (slice_get ports (n + i)) (view.option view.expr (get_or es i d))
get_ordered ports n env [] i d h f = absurd (let no : ⊥ = omega (arith, h) in no)
get_ordered ports n env (e ∷ es) zero d h f = subst (λ k. IsFineValue env (slice_get ports k) (view.option view.expr e)) (let same : n ≡ n + 0 = omega arith in same) f.0
get_ordered ports n env (e ∷ es) (suc i) d h f =
    subst (λ k. IsFineValue env (slice_get ports k) (view.option view.expr (get_or es i d))) (let same : suc n + i ≡ n + suc i = omega arith in same) (get_ordered ports (suc n) env es i d (omega (arith, h)) f.1)

-- the one of this port
pub ordered_at : (ports : List Port) (env : Env) (es : List (Option Expr)) (i : ℕ) (e : Option Expr) (port : Option Port) → i < length es → e ≡ get_or es i e → port ≡ slice_get ports i
    → AreFineOrdered ports 0 env (map (view.option view.expr) es) → IsFineValue env port (view.option view.expr e)
ordered_at ports env es i e port h is at f =
    subst (λ (p : Option Port). IsFineValue env p (view.option view.expr e)) (sym at)
    (subst (λ (x : Option Expr). IsFineValue env (slice_get ports i) (view.option view.expr x)) (sym is)
    (subst (λ k. IsFineValue env (slice_get ports k) (view.option view.expr (get_or es i e))) (let same : 0 + i ≡ i = omega arith in same) (get_ordered ports 0 env es i e h f)))

-- ---- by names

fine_named : (ports : List Port) (env : Env) (cs : List tree.NamedConnection) → Each IsConnection cs → deepest connection_depth cs ≤ depth_limit
    → (connected_by_name ports cs env).faults ≡ [] → Each (IsFineNamed ports env) cs
fine_named ports env [] s d c = tt
fine_named ports env (x ∷ cs) s d c =
    let both = both_nil (connected (find_port ports x.name.bytes) x.e env).faults (connected_by_name ports cs env).faults c in
    (record { shaped = s.0.1; clean = both.0; shallow = omega (arith, d) }, fine_named ports env cs s.1 (omega (arith, d)) both.1)

each_connection : (cs : List tree.NamedConnection) → OneOrMore IsConnection cs → Each IsConnection cs
each_connection [] h = absurd h
each_connection (c ∷ cs) h = h

pub are_fine_named : (ports : List Port) (env : Env) (cs : List tree.NamedConnection) → OneOrMore IsConnection cs → deepest connection_depth cs ≤ depth_limit
    → (connected_by_name ports cs env).faults ≡ [] → Each (IsFineNamed ports env) cs
are_fine_named ports env cs s d c = fine_named ports env cs (each_connection cs s) d c

-- the first one of this name
pub named_at : (ports : List Port) (env : Env) (cs : List tree.NamedConnection) (name : List ℕ) (e : Option tree.Expr) → Each (IsFineNamed ports env) cs → value_at name (map named_value cs) ≡ Some e
    → IsFineValue env (find_port ports name) e
named_at ports env [] name e f h = cc
named_at ports env (c ∷ cs) name e f h = by (same_name c.name.bytes name) refl (named_at ports env cs name e f.1) h
  where
    value : Some c.e ≡ Some e → c.e ≡ e
    value k = cc

    by : (b : Bool) → same_name c.name.bytes name ≡ b → (value_at name (map named_value cs) ≡ Some e → IsFineValue env (find_port ports name) e)
        → (if b then Some c.e else value_at name (map named_value cs)) ≡ Some e → IsFineValue env (find_port ports name) e
    by true same r k = subst (λ (v : Option tree.Expr). IsFineValue env (find_port ports name) v) (value k) (subst (λ n. IsFineValue env (find_port ports n) c.e) (same_is c.name.bytes name same) f.0)
    by false same r k = r k
