-- The faults of what ports are connected to.
use Rattle.std.proofs.Common.{◌≡◌, ℕ, suc, ◌+◌, ◌<◌, Bool, true, false, not, ◌||◌, List, [], ◌∷◌, ◌++◌, length, get_or, drop, map, flat_map, Option, Some, None, if◌then◌else◌, refl, sym, ap, ◌∙◌, append_assoc, drop-cons, add-one}
use Rattle.std.specs.Prelude.{is_some, is_none, slice_get}
use Rattle.std.specs.Borrow.{Bor}
use Rattle.std.specs.List.{list_any}
use Rattle.vs_design.specs.Clocks.{same_name}
use Rattle.vs_grammar.specs.Trees as tree
use Rattle.vs_ast.specs.declared.expressions.Expr.{Expr}
use Rattle.vs_ast.specs.Views as view
use Rattle.vs_const.specs.declared.faults.Fault.{Fault}
use Rattle.vs_const.specs.Faults.{least, better, fault_if}
use Rattle.vs_const.specs.declared.rules.Rule.TheVariants.{UnknownModule}
use Rattle.vs_const.proofs.Least.{least_append}
use Rattle.vs_elaborated.specs.Environments.{Env, named}
use Rattle.vs_elaborated.specs.Ports.{Port, find_port, ports_of, find_module}
use Rattle.vs_elaborated.specs.Instances.{Around, Overrides, Connected, known_instance, instance_said, unknown_module, instances_said, said_overrides, said_connections, directed, connected, connected_by_order, connected_by_name, module_ports, is_port}
use Rattle.vs_elaborated.specs.Parameters.{Override}
use Rattle.vs_elaborated.specs.Pieces.{all_said}
use Rattle.vs_maps.specs.Maps.{value_at}
use Rattle.vs_maps.specs.MapViews.{pairs}
use Rattle.vs_items.specs.declared.interfaces.Interface.{Interface}
use Rattle.vs_items.specs.Instances.{instance_faults}
use Rattle.vs_items.specs.Interfaces.{IsKnown}
use Rattle.vs_items.specs.Ports.{named_port, input_of}
use Rattle.vs_items.specs.PortTables.{ArePorts}
use Rattle.vs_items.proofs.SameNames.{overrides_alike, connections_alike}

-- ---- the first of several faults

abbrev listed : Option Fault → List Fault
listed None = []
listed (Some a) = a ∷ []

listed_is : (o : Option Fault) → least (listed o) ≡ o
listed_is None = refl
listed_is (Some a) = refl

better_none : (o : Option Fault) → better o None ≡ o
better_none None = refl
better_none (Some a) = refl

better_grouped : (a b c : Option Fault) → better (better a b) c ≡ better a (better b c)
better_grouped a b c =
    let x = listed a in
    let y = listed b in
    let z = listed c in
    ap (λ o. better (better o b) c) (sym (listed_is a)) ∙ ap (λ o. better (better (least x) o) c) (sym (listed_is b)) ∙ ap (better (better (least x) (least y))) (sym (listed_is c))
    ∙ ap (λ o. better o (least z)) (sym (least_append x y)) ∙ sym (least_append (x ++ y) z) ∙ ap least (append_assoc x y z) ∙ least_append x (y ++ z) ∙ ap (better (least x)) (least_append y z)
    ∙ ap (λ o. better o (better (least y) (least z))) (listed_is a) ∙ ap (λ o. better a (better o (least z))) (listed_is b) ∙ ap (λ o. better a (better b o)) (listed_is c)

-- ---- by order

abbrev pub value : Option Expr → Option tree.Expr
value e = view.option view.expr e

-- one part more
pub ordered_step : (ps : List Port) (env : Env) (whole : Option Fault) (parts : List (Option Expr)) (n : ℕ) (x : Option Expr) (port : Option Port) (fault found both : Option Fault)
    → n < length parts → x ≡ get_or parts n x → port ≡ slice_get ps n → found ≡ least (connected port (value x) env).faults → both ≡ better fault found
    → better fault (least (connected_by_order ps n (map value (drop n parts)) env).faults) ≡ whole
    → better both (least (connected_by_order ps (n + 1) (map value (drop (n + 1) parts)) env).faults) ≡ whole
ordered_step ps env whole parts n x port fault found both h e port_is found_is is before =
    let rest : List Fault = (connected_by_order ps (n + 1) (map value (drop (n + 1) parts)) env).faults in
    let one : List Fault = (connected port (value x) env).faults in
    let here : drop n parts ≡ x ∷ drop (n + 1) parts = drop-cons parts n x h ∙ ap (λ y. y ∷ drop (suc n) parts) (sym e) ∙ ap (λ m. x ∷ drop m parts) (sym (add-one n)) in
    ap (λ b. better b (least rest)) is ∙ better_grouped fault found (least rest) ∙ ap (λ z. better fault (better z (least rest))) found_is
    ∙ ap (better fault) (sym (least_append one rest))
    ∙ ap (λ (p : Option Port). better fault (least ((connected p (value x) env).faults ++ rest))) port_is
    ∙ ap (λ (m : ℕ). better fault (least ((connected (slice_get ps n) (value x) env).faults ++ (connected_by_order ps m (map value (drop (n + 1) parts)) env).faults))) (add-one n)
    ∙ ap (λ (xs : List (Option Expr)). better fault (least (connected_by_order ps n (map value xs) env).faults)) (sym here)
    ∙ before

-- no part more
pub ordered_end : (ps : List Port) (env : Env) (whole : Option Fault) (parts : List (Option Expr)) (n : ℕ) (fault : Option Fault) → drop n parts ≡ []
    → better fault (least (connected_by_order ps n (map value (drop n parts)) env).faults) ≡ whole → fault ≡ whole
ordered_end ps env whole parts n fault e before =
    sym (better_none fault) ∙ ap (λ (xs : List (Option Expr)). better fault (least (connected_by_order ps n (map value xs) env).faults)) (sym e) ∙ before

-- ---- by names

abbrev pub port_faults : List Port → Env → tree.NamedConnection → List Fault
port_faults ps env c = (connected (find_port ps c.name.bytes) c.e env).faults

pub named_port_faults : (ps : List Port) (cs : List tree.NamedConnection) (env : Env) → (connected_by_name ps cs env).faults ≡ flat_map (port_faults ps env) cs
named_port_faults ps [] env = refl
named_port_faults ps (c ∷ cs) env = ap (λ fs. port_faults ps env c ++ fs) (named_port_faults ps cs env)

-- ---- what is known of a module

abbrev IsThere : Interface → Option tree.Module → Type 0
IsThere i m = IsKnown (Some (record { ref_ptr = (0, 0); now = i })) m

pub known_ports : (i : Interface) (m : Option tree.Module) → IsThere i m → ArePorts i.ports (module_ports m)
known_ports i None h = absurd h
known_ports i (Some m) h = h.ports

in_ports : (ps : List Port) (name : List ℕ) → is_some (value_at name (map named_port ps)) ≡ list_any (λ (p : Port). same_name p.name name) ps
in_ports [] name = refl
in_ports (p ∷ ps) name = by (same_name p.name name) (in_ports ps name)
  where
    by : (b : Bool) → is_some (value_at name (map named_port ps)) ≡ list_any (λ (q : Port). same_name q.name name) ps
        → is_some (if b then Some p.input else value_at name (map named_port ps)) ≡ (b || list_any (λ (q : Port). same_name q.name name) ps)
    by true r = refl
    by false r = r

-- whether a name is one of a module's ports
pub port_known : (i : Interface) (m : Option tree.Module) → IsThere i m → (name : List ℕ) → is_some (value_at name (pairs i.ports.inputs)) ≡ is_port m name
port_known i None h name = absurd h
port_known i (Some m) h name = ap is_some (h.ports.inputs.each name) ∙ in_ports (ports_of m) name

-- ---- one port

abbrev pub name_of : Option Port → List ℕ
name_of None = []
name_of (Some p) = p.name

pub connected_has : (p : Option Port) (e : tree.Expr) (env : Env) → (directed (name_of p) (input_of p) e env).faults ≡ (connected p (Some e) env).faults
connected_has None e env = refl
connected_has (Some p) e env = refl

-- ---- all instances of an item

known_has : (around : Around) (place : ℕ) (name : List ℕ) (m : Option tree.Module) (os : List Override) (c : Connected) → (known_instance around place name m os c).faults ≡ c.faults
known_has around place name None os c = refl
known_has around place name (Some m) os c = refl

instances_have : (around : Around) (place : ℕ) (m : Option tree.Module) (os : List Override) (is : List tree.Instance) → (all_said (instance_said around place m os) is).faults ≡ flat_map (instance_faults m around.env) is
instances_have around place m os [] = refl
instances_have around place m os (i ∷ is) =
    ap (λ fs. fs ++ (all_said (instance_said around place m os) is).faults) (known_has around place i.name.bytes m os (said_connections m i.name i.connections around.env))
    ∙ ap (λ fs. instance_faults m around.env i ++ fs) (instances_have around place m os is)

missing_is : (k : Option (Bor Interface)) (m : Option tree.Module) (place : ℕ) → IsKnown k m → least (fault_if (is_none k) UnknownModule place) ≡ least (unknown_module m place)
missing_is None None place h = refl
missing_is None (Some m) place h = absurd h
missing_is (Some i) None place h = absurd h
missing_is (Some i) (Some m) place h = refl

instances_alike : (e1 e2 : Env) → named e1 ≡ named e2 → (m : Option tree.Module) (is : List tree.Instance) → flat_map (instance_faults m e1) is ≡ flat_map (instance_faults m e2) is
instances_alike e1 e2 h m [] = refl
instances_alike e1 e2 h m (i ∷ is) =
    ap (λ (c : Connected). c.faults ++ flat_map (instance_faults m e1) is) (connections_alike e1 e2 h m i.name i.connections)
    ∙ ap (λ fs. instance_faults m e2 i ++ fs) (instances_alike e1 e2 h m is)

-- what is found of an item, in its parts
pub item_has : (source : tree.Source) (around : Around) (t : tree.Instances) (env : Env) (k : Option (Bor Interface)) (missing overrides connections one both : Option Fault)
    → IsKnown k (find_module source t.of.bytes) → named around.env ≡ named env
    → missing ≡ least (fault_if (is_none k) UnknownModule t.of.place)
    → overrides ≡ least (said_overrides t.of (find_module source t.of.bytes) t.overrides env).faults
    → connections ≡ least (flat_map (instance_faults (find_module source t.of.bytes) env) t.instances)
    → one ≡ better missing overrides → both ≡ better one connections → both ≡ least (instances_said source around t).faults
item_has source around t env k missing overrides connections one both known same is_missing are_overrides are_connections is_one is_both =
    let m = find_module source t.of.bytes in
    let os : Env → List Fault = λ x. (said_overrides t.of m t.overrides x).faults in
    let cs : Env → List Fault = λ x. flat_map (instance_faults m x) t.instances in
    let unknown = unknown_module m t.of.place in
    is_both ∙ ap (λ x. better x connections) (is_one ∙ ap (λ x. better x overrides) (is_missing ∙ missing_is k m t.of.place known) ∙ ap (better (least unknown)) are_overrides ∙ sym (least_append unknown (os env)))
    ∙ ap (better (least (unknown ++ os env))) are_connections
    ∙ sym (least_append (unknown ++ os env) (cs env))
    ∙ ap (λ fs. least ((unknown ++ fs) ++ cs env)) (ap (λ (o : Overrides). o.faults) (overrides_alike env around.env (sym same) t.of m t.overrides))
    ∙ ap (λ fs. least ((unknown ++ os around.env) ++ fs)) (instances_alike env around.env (sym same) m t.instances)
    ∙ ap (λ fs. least ((unknown ++ os around.env) ++ fs)) (sym (instances_have around t.of.place m (said_overrides t.of m t.overrides around.env).overrides t.instances))

pub none_is : {A : Type 0} (k : Option A) (b : Bool) → is_some k ≡ not b → b ≡ is_none k
none_is None true h = refl
none_is None false h = cc
none_is (Some a) true h = cc
none_is (Some a) false h = refl
