-- Instances: overrides and connections (IEEE 1364-2005, 12.1.2, 12.2.2, 12.3.5 to 12.3.9).
use Rattle.std.specs.Prelude.{ℕ, suc, ◌+◌, Bool, true, false, not, List, [], ◌∷◌, ◌++◌, flat_map, length, if◌then◌else◌, ◌==◌, nat_lt, slice_get, Option, Some, None}
use Rattle.std.specs.List.{list_any}
use Rattle.vs_design.specs.Clocks.{same_name}
use Rattle.vs_grammar.specs.Trees as tree
use Rattle.vs_grammar.specs.Trees.{Name, Module, Source, Unconnected, ByOrder, ByName, expr_place, target_place}
use Rattle.vs_const.specs.declared.faults.Fault.{Fault}
use Rattle.vs_const.specs.Faults.{fault, fault_if}
use Rattle.vs_const.specs.declared.rules.Rule.TheVariants.{UnknownModule, DuplicateName, PortCount, UnknownPort, WrongKind}
use Rattle.vs_const.specs.Expressions.{typed, constant}
use Rattle.vs_elaborated.specs.Environments.{Env, no_env, named}
use Rattle.vs_elaborated.specs.Targets.{typed_target, as_target}
use Rattle.vs_elaborated.specs.Parameters.{Override}
use Rattle.vs_elaborated.specs.Ports.{Port, ports_of, find_port, is_named, overridable, find_module}
use Rattle.vs_elaborated.specs.Pieces.{OfModule, Connection, IntoInput, FromOutput, Instance, Said, nothing_said, one_said, both_said, all_said}

-- where a scope's items stand
pub record Around : Type 0 where
  pub scope : ℕ
  pub depth : ℕ
  pub env : Env

-- names of connections stand once each, and are known
abbrev pub connected_names : (List ℕ → Bool) → List Name → List tree.NamedConnection → List Fault
connected_names is_known seen [] = []
connected_names is_known seen (c ∷ rest) =
    (if is_named c.name.bytes seen then fault DuplicateName c.name.place else fault_if (not (is_known c.name.bytes)) UnknownPort c.name.place) ++ connected_names is_known (c.name ∷ seen) rest

-- ---- overrides (12.2.2)

-- what is overridden, and the faults of all expressions
pub record Overrides : Type 0 where
  pub overrides : List Override
  pub faults : List Fault

-- an empty one keeps the default
abbrev pub and_override : Option (List ℕ) → Option tree.Expr → Env → Overrides → Overrides
and_override name None env others = others
and_override None (Some e) env others = record others { faults = (constant e (named env)).faults ++ others.faults }
and_override (Some name) (Some e) env others =
    let t = constant e (named env) in
    record { overrides = record { name = name; typed = t } ∷ others.overrides; faults = t.faults ++ others.faults }

-- the parameters that can be overridden, from the n-th on
abbrev pub overrides_by_order : List (List ℕ) → ℕ → List (Option tree.Expr) → Env → Overrides
overrides_by_order names n [] env = record { overrides = []; faults = [] }
overrides_by_order names n (e ∷ es) env = and_override (slice_get names n) e env (overrides_by_order names (suc n) es env)

-- each by its name
abbrev pub overrides_by_name : List tree.NamedConnection → Env → Overrides
overrides_by_name [] env = record { overrides = []; faults = [] }
overrides_by_name (c ∷ rest) env = and_override (Some c.name.bytes) c.e env (overrides_by_name rest env)

-- of an unknown module nothing is known
abbrev pub module_overridable : Option Module → List (List ℕ)
module_overridable None = []
module_overridable (Some m) = overridable m

-- whether the module has such a parameter
abbrev pub is_overridable : Option Module → List ℕ → Bool
is_overridable None name = true
is_overridable (Some m) name = list_any (same_name name) (overridable m)

-- more overrides by order than parameters
abbrev pub has_too_many : Option Module → ℕ → Bool
has_too_many None n = false
has_too_many (Some m) n = nat_lt (length (overridable m)) n

-- `#(..)` behind the module's name
abbrev pub said_overrides : Name → Option Module → tree.Connections → Env → Overrides
said_overrides of m Unconnected env = record { overrides = []; faults = [] }
said_overrides of m (ByOrder parts) env =
    let r = overrides_by_order (module_overridable m) 0 parts env in
    record r { faults = fault_if (has_too_many m (length parts)) PortCount of.place ++ r.faults }
said_overrides of m (ByName parts) env =
    let r = overrides_by_name parts env in
    record r { faults = connected_names (is_overridable m) [] parts ++ r.faults }

-- ---- connections (12.3.5, 12.3.6)

-- what is connected, and the faults of all expressions
pub record Connected : Type 0 where
  pub connections : List Connection
  pub faults : List Fault

-- what isn't a target isn't a net
abbrev pub output_target : List ℕ → tree.Expr → Env → Option tree.Target → Connected
output_target name e env None = record { connections = []; faults = fault WrongKind (expr_place e) ++ (typed e (named env) false).faults }
output_target name e env (Some target) = let t = typed_target target (named env) false in record { connections = FromOutput name (target_place target) t.target ∷ []; faults = t.faults }

-- an output's connection is a target, and any other an expression
abbrev pub directed : List ℕ → Option Bool → tree.Expr → Env → Connected
directed name (Some false) e env = output_target name e env (as_target e)
directed name (Some true) e env = let t = typed e (named env) false in record { connections = IntoInput name t.expression ∷ []; faults = t.faults }
directed name None e env = record { connections = []; faults = (typed e (named env) false).faults }

-- an open port has no connection
abbrev pub connected : Option Port → Option tree.Expr → Env → Connected
connected p None env = record { connections = []; faults = [] }
connected None (Some e) env = directed [] None e env
connected (Some p) (Some e) env = directed p.name p.input e env

-- the first one's before the others'
abbrev pub and_connected : Connected → Connected → Connected
and_connected a b = record { connections = a.connections ++ b.connections; faults = a.faults ++ b.faults }

-- the ports from the n-th on
abbrev pub connected_by_order : List Port → ℕ → List (Option tree.Expr) → Env → Connected
connected_by_order ports n [] env = record { connections = []; faults = [] }
connected_by_order ports n (e ∷ es) env = and_connected (connected (slice_get ports n) e env) (connected_by_order ports (suc n) es env)

-- each by its name
abbrev pub connected_by_name : List Port → List tree.NamedConnection → Env → Connected
connected_by_name ports [] env = record { connections = []; faults = [] }
connected_by_name ports (c ∷ rest) env = and_connected (connected (find_port ports c.name.bytes) c.e env) (connected_by_name ports rest env)

-- the port's name
abbrev pub connection_name : Connection → List ℕ
connection_name (IntoInput name e) = name
connection_name (FromOutput name place target) = name

-- the connection of this port, if it has one
abbrev pub connection_of : List ℕ → List Connection → List Connection
connection_of name [] = []
connection_of name (c ∷ rest) = if same_name (connection_name c) name then c ∷ [] else connection_of name rest

-- as the module's header has them
abbrev pub in_port_order : List Port → List Connection → List Connection
in_port_order ports cs = flat_map (λ (p : Port). connection_of p.name cs) ports

-- none of an unknown module
abbrev pub module_ports : Option Module → List Port
module_ports None = []
module_ports (Some m) = ports_of m

-- whether the module has such a port
abbrev pub is_port : Option Module → List ℕ → Bool
is_port None name = true
is_port (Some m) name = list_any (λ (p : Port). same_name p.name name) (ports_of m)

-- connections by order that aren't as many as the ports
abbrev pub has_wrong_count : Option Module → ℕ → Bool
has_wrong_count None n = false
has_wrong_count (Some m) n = not (length (ports_of m) == n)

-- by order as many as there are ports, or by names; nothing is connected by empty brackets
abbrev pub said_connections : Option Module → Name → tree.Connections → Env → Connected
said_connections m name Unconnected env = record { connections = []; faults = [] }
said_connections m name (ByOrder parts) env =
    let r = connected_by_order (module_ports m) 0 parts env in
    record r { faults = fault_if (has_wrong_count m (length parts)) PortCount name.place ++ r.faults }
said_connections m name (ByName parts) env =
    let r = connected_by_name (module_ports m) parts env in
    record { connections = in_port_order (module_ports m) r.connections; faults = connected_names (is_port m) [] parts ++ r.faults }

-- ---- instances

-- the scope that an instance makes, one deeper than what it stands in; nothing of the scopes around it is seen within
abbrev pub known_instance : Around → (place : ℕ) → List ℕ → Option Module → List Override → Connected → Said
known_instance around place name None overrides c = nothing_said c.faults
known_instance around place name (Some m) overrides c =
    one_said (Instance c.connections (record { name = name; parent = Some around.scope; contents = OfModule m overrides; depth = around.depth + 1; place = place; env = no_env })) c.faults

-- one of the instances of an item
abbrev pub instance_said : Around → (place : ℕ) → Option Module → List Override → tree.Instance → Said
instance_said around place m overrides i = known_instance around place i.name.bytes m overrides (said_connections m i.name i.connections around.env)

-- a module that isn't in the text
abbrev pub unknown_module : Option Module → ℕ → List Fault
unknown_module None place = fault UnknownModule place
unknown_module (Some m) place = []

-- an item of instances: they share the module and the overrides
abbrev pub instances_said : Source → Around → tree.Instances → Said
instances_said source around t =
    let m = find_module source t.of.bytes in
    let o = said_overrides t.of m t.overrides around.env in
    both_said (nothing_said (unknown_module m t.of.place ++ o.faults)) (all_said (instance_said around t.of.place m o.overrides) t.instances)
