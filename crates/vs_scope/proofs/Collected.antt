-- The declaration of each name of an item.
use Rattle.std.proofs.Common.{Bool}
use Rattle.vs_grammar.specs.Trees as tree
use Rattle.vs_elaborated.specs.Declarations.{Declaration, SignalOf, ParameterOf}

abbrev pub signal_declared : Bool → tree.Signals → tree.Declarator → Declaration
signal_declared header t d = record { name = d.name; sort = SignalOf (record { kind = t.kind; value_type = tree.RangeType t.signed t.range; addresses = d.addresses; header = header }) }

abbrev pub parameter_declared : tree.Parameters → tree.Setting → Declaration
parameter_declared t s = record { name = s.name; sort = ParameterOf (record { is_local = t.is_local; value_type = t.value_type; value = s.value }) }
