-- Connections by names, in the order of the ports.
use Rattle.std.proofs.Common.{◌≡◌, ℕ, ◌+◌, ◌<◌, Bool, true, false, ◌||◌, List, [], ◌∷◌, ◌++◌, length, get_or, take, map, flat_map, Option, Some, None, option_map, if◌then◌else◌, refl, sym, ap, ◌∙◌, subst}
use Rattle.std.specs.List.{list_any}
use Rattle.std.specs.Borrow.{Bor}
use Rattle.std.proofs.lemmas.List.{append-nil, get_or_default}
use Rattle.std.proofs.lemmas.Grind.{flat_map-append}
use Rattle.vs_design.specs.Clocks.{same_name}
use Rattle.vs_grammar.specs.Trees as tree
use Rattle.vs_ast.specs.declared.expressions.Expr.{Expr}
use Rattle.vs_ast.specs.Views as view
use Rattle.vs_elaborated.specs.Environments.{Env}
use Rattle.vs_elaborated.specs.Pieces as pieces
use Rattle.vs_elaborated.specs.Ports.{Port, find_port}
use Rattle.vs_elaborated.specs.Targets.{as_target}
use Rattle.vs_elaborated.specs.Instances.{connected, directed, output_target, connected_by_name, connection_name, connection_of, in_port_order}
use Rattle.vs_maps.specs.Maps.{Pair, value_at}
use Rattle.vs_scope.proofs.Entries.{same_is}
use Rattle.vs_items.specs.declared.ports.Port.{Port as Port'}
use Rattle.vs_items.specs.Ports.{port_of}
use Rattle.vs_items.specs.Connections.{AreNamed, AreApart, connected_at, connected_if, named_value, value_of}
use Rattle.vs_items.proofs.Repeats.{one_more}

abbrev pub tree_value : Bor (Option Expr) → Option tree.Expr
tree_value b = view.option view.expr b.now

value_of_map : (ps : List (Pair (Bor (Option Expr)))) (name : List ℕ) → value_at name (map value_of ps) ≡ option_map tree_value (value_at name ps)
value_of_map [] name = refl
value_of_map (p ∷ ps) name = by (same_name p.name name) (value_of_map ps name)
  where
    by : (b : Bool) → value_at name (map value_of ps) ≡ option_map tree_value (value_at name ps)
        → (if b then Some (tree_value p.value) else value_at name (map value_of ps)) ≡ option_map tree_value (if b then Some p.value else value_at name ps)
    by true h = refl
    by false h = h

-- what a map has at a name
pub value_named : (ps : List (Pair (Bor (Option Expr)))) (cs : List tree.NamedConnection) (name : List ℕ) (v : Option (Bor (Option Expr))) → v ≡ value_at name ps → AreNamed ps cs
    → option_map tree_value v ≡ value_at name (map named_value cs)
value_named ps cs name v is a = ap (option_map tree_value) (is ∙ a.first.each name) ∙ sym (value_of_map a.all name) ∙ ap (value_at name) a.are

-- one port more
pub port_step : (ps : List Port) (cs : List tree.NamedConnection) (env : Env) (list : List Port') (i : ℕ) (p d : Port') → i < length list → p ≡ get_or list i d
    → flat_map (λ (q : Port). connected_at ps cs env q.name) (map port_of (take (i + 1) list)) ≡ flat_map (λ (q : Port). connected_at ps cs env q.name) (map port_of (take i list)) ++ connected_at ps cs env p.name.now
port_step ps cs env list i p d h e =
    let f : Port → List pieces.Connection = λ q. connected_at ps cs env q.name in
    ap (flat_map f) (one_more port_of list i p h (e ∙ get_or_default list i d p h)) ∙ flat_map-append f (map port_of (take i list)) (port_of p ∷ [])
    ∙ ap (λ r. flat_map f (map port_of (take i list)) ++ r) (append-nil (connected_at ps cs env p.name.now))

-- ---- what the first of a name is, where no name comes twice

-- what a named connection says has its name
abbrev pub AreOf : List ℕ → List pieces.Connection → Type 0
AreOf name [] = Unit {0}
AreOf name (c ∷ cs) = (connection_name c ≡ name) × (cs ≡ [])

output_of : (name : List ℕ) (e : tree.Expr) (env : Env) (t : Option tree.Target) → AreOf name (output_target name e env t).connections
output_of name e env None = tt
output_of name e env (Some target) = (refl, refl)

directed_of : (name : List ℕ) (input : Option Bool) (e : tree.Expr) (env : Env) → AreOf name (directed name input e env).connections
directed_of name (Some false) e env = output_of name e env (as_target e)
directed_of name (Some true) e env = (refl, refl)
directed_of name None e env = tt

found_name : (ps : List Port) (name : List ℕ) (p : Port) → find_port ps name ≡ Some p → p.name ≡ name
found_name [] name p h = cc
found_name (q ∷ ps) name p h = by (same_name q.name name) refl (found_name ps name p) h
  where
    by : (b : Bool) → same_name q.name name ≡ b → (find_port ps name ≡ Some p → p.name ≡ name) → (if b then Some q else find_port ps name) ≡ Some p → p.name ≡ name
    by true e r k = let s : q ≡ p = cc in ap (λ (x : Port). x.name) (sym s) ∙ same_is q.name name e
    by false e r k = r k

pub connected_of : (ps : List Port) (name : List ℕ) (e : Option tree.Expr) (env : Env) → AreOf name (connected (find_port ps name) e env).connections
connected_of ps name e env = by (find_port ps name) refl e
  where
    by : (p : Option Port) → find_port ps name ≡ p → (e : Option tree.Expr) → AreOf name (connected p e env).connections
    by p is None = tt
    by None is (Some e) = tt
    by (Some p) is (Some e) = subst (λ n. AreOf n (directed p.name p.input e env).connections) (found_name ps name p is) (directed_of p.name p.input e env)

-- connections of another name
skipped : (name n : List ℕ) (xs rest : List pieces.Connection) → AreOf n xs → same_name n name ≡ false → connection_of name (xs ++ rest) ≡ connection_of name rest
skipped name n [] rest h e = refl
skipped name n (x ∷ xs) rest h e =
    ap (λ b. if b then x ∷ [] else connection_of name (xs ++ rest)) (ap (λ m. same_name m name) h.0 ∙ e) ∙ ap (λ ys. connection_of name (ys ++ rest)) h.1

-- those of this name
met : (name n : List ℕ) (xs rest : List pieces.Connection) → AreOf n xs → same_name n name ≡ true → connection_of name rest ≡ [] → connection_of name (xs ++ rest) ≡ xs
met name n [] rest h e none = none
met name n (x ∷ xs) rest h e none =
    ap (λ b. if b then x ∷ [] else connection_of name (xs ++ rest)) (ap (λ m. same_name m name) h.0 ∙ e) ∙ ap (λ ys. x ∷ ys) (sym h.1)

-- a name that none of them has
absent : (cs : List tree.NamedConnection) (name : List ℕ) → list_any (λ (d : tree.NamedConnection). same_name d.name.bytes name) cs ≡ false → value_at name (map named_value cs) ≡ None
absent [] name h = refl
absent (c ∷ cs) name h = by (same_name c.name.bytes name) (absent cs name) h
  where
    by : (b : Bool) → (list_any (λ (d : tree.NamedConnection). same_name d.name.bytes name) cs ≡ false → value_at name (map named_value cs) ≡ None)
        → (b || list_any (λ (d : tree.NamedConnection). same_name d.name.bytes name) cs) ≡ false → (if b then Some c.e else value_at name (map named_value cs)) ≡ None
    by true r h = cc
    by false r h = r h

-- what a port is connected to
connection_at : (ps : List Port) (cs : List tree.NamedConnection) (env : Env) (name : List ℕ) → AreApart cs → connection_of name (connected_by_name ps cs env).connections ≡ connected_at ps cs env name
connection_at ps [] env name apart = refl
connection_at ps (c ∷ cs) env name apart = by (same_name c.name.bytes name) refl (connection_at ps cs env name apart.1)
  where
    by : (b : Bool) → same_name c.name.bytes name ≡ b → connection_of name (connected_by_name ps cs env).connections ≡ connected_at ps cs env name
        → connection_of name ((connected (find_port ps c.name.bytes) c.e env).connections ++ (connected_by_name ps cs env).connections) ≡ connected_if ps env name (if b then Some c.e else value_at name (map named_value cs))
    by true e r =
        let none : value_at name (map named_value cs) ≡ None = absent cs name (ap (λ n. list_any (λ (d : tree.NamedConnection). same_name d.name.bytes n) cs) (sym (same_is c.name.bytes name e)) ∙ apart.0) in
        met name c.name.bytes _ _ (connected_of ps c.name.bytes c.e env) e (r ∙ ap (connected_if ps env name) none)
        ∙ ap (λ n. (connected (find_port ps n) c.e env).connections) (same_is c.name.bytes name e)
    by false e r = skipped name c.name.bytes _ _ (connected_of ps c.name.bytes c.e env) e ∙ r

-- what all these ports are connected to
pub connections_at : (ps qs : List Port) (cs : List tree.NamedConnection) (env : Env) → AreApart cs
    → flat_map (λ (p : Port). connected_at ps cs env p.name) qs ≡ in_port_order qs (connected_by_name ps cs env).connections
connections_at ps [] cs env apart = refl
connections_at ps (q ∷ qs) cs env apart =
    ap (λ r. connected_at ps cs env q.name ++ r) (connections_at ps qs cs env apart) ∙ ap (λ r. r ++ in_port_order qs (connected_by_name ps cs env).connections) (sym (connection_at ps cs env q.name apart))
