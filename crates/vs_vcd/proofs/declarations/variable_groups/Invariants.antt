use Rattle.std.proofs.Common.{◌≡◌, ◌++◌, drop}
use Rattle.vs_flat.specs.DesignOf.{design_of}
use Rattle.vs_vcd.specs.Steps.{signal_keys}
use Rattle.vs_vcd.proofs.declarations.variable_groups.Given as goal

abbrev pub invariant-loop-number : goal.invariant-loop-number
invariant-loop-number l = l.keys.items ++ signal_keys (drop l.number (design_of l.flat).signals) ≡ signal_keys (design_of l.flat).signals
