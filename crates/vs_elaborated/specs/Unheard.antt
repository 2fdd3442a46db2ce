-- What a function reads wakes nobody: an assign and a block with `@*` wait for what their own text names (IEEE 1364-2005, 6.1, 9.7.5 and 10.4.4).
use Rattle.std.specs.Prelude.{ℕ, false, List, [], flat_map, if◌then◌else◌, Option, Some, None}
use Rattle.vs_grammar.specs.Trees as tree
use Rattle.vs_const.specs.declared.faults.Fault.{Fault}
use Rattle.vs_const.specs.Meanings.{Find}
use Rattle.vs_const.specs.Mentions.{mentions, unheard_faults}
use Rattle.vs_elaborated.specs.Signals.{is_reg}
use Rattle.vs_elaborated.specs.Reads.{statement_mentions}

-- an assign at this place of this value, if there is one
abbrev pub value_unheard : (place : ℕ) → Find → Option tree.Expr → List Fault
value_unheard place find None = []
value_unheard place find (Some e) = unheard_faults place (mentions e find false)

-- a block with `@*`; where a list lacks what the block reads, itself or through functions, that is another rule's, and a clocked block reads when it runs
abbrev pub block_unheard : Find → tree.AlwaysBlock → List Fault
block_unheard find b = elim b.control [ tree.Star ↦ unheard_faults b.place (statement_mentions b.statement find) | tree.Listed events ↦ [] ]

-- a value of a declared net is an assign's (6.1.1), and one of a variable an initial process's
abbrev pub signals_unheard : Find → tree.Signals → List Fault
signals_unheard find t = if is_reg t.kind then [] else flat_map (λ (d : tree.Declarator). value_unheard t.place find d.value) t.names

-- what is connected to the ports of an instance that stands at this place: each port's assign (12.3.9.2)
abbrev pub connections_unheard : (place : ℕ) → Find → tree.Connections → List Fault
connections_unheard place find tree.Unconnected = []
connections_unheard place find (tree.ByOrder parts) = flat_map (value_unheard place find) parts
connections_unheard place find (tree.ByName parts) = flat_map (λ (c : tree.NamedConnection). value_unheard place find c.e) parts

-- the processes of an item
abbrev pub item_unheard : Find → tree.Item → List Fault
item_unheard find (tree.SignalsItem t) = signals_unheard find t
item_unheard find (tree.AssignsItem place assigns) = flat_map (λ (a : tree.Assign). value_unheard place find (Some a.e)) assigns
item_unheard find (tree.AlwaysItem block) = block_unheard find block
item_unheard find (tree.InstancesItem t) = flat_map (λ (i : tree.Instance). connections_unheard t.of.place find i.connections) t.instances
item_unheard find item = []

-- and of a header
abbrev pub ports_unheard : Find → tree.Header → List Fault
ports_unheard find (tree.DeclaredPorts ports) = flat_map (signals_unheard find) ports
ports_unheard find _ = []
