use Rattle.std.proofs.Common.{◌≡◌, ◌++◌, drop}
use Rattle.vs_flat.specs.DesignOf.{design_of}
use Rattle.vs_vcd.specs.Steps.{scope_keys}
use Rattle.vs_vcd.proofs.declarations.scope_groups.Given as goal

abbrev pub invariant-loop-number : goal.invariant-loop-number
invariant-loop-number l = l.keys.items ++ scope_keys l.number (drop l.number (design_of l.flat).scopes) ≡ scope_keys 0 (design_of l.flat).scopes
