-- The faults of a header, by what is known of its names.
use Rattle.std.specs.Prelude.{ℕ, Bool, not, List, flat_map}
use Rattle.vs_grammar.specs.Trees.{Name}
use Rattle.vs_const.specs.declared.faults.Fault.{Fault}
use Rattle.vs_const.specs.Faults.{fault_if}
use Rattle.vs_const.specs.declared.rules.Rule.TheVariants.{UnknownName, UnknownPort}
use Rattle.vs_elaborated.specs.Ports.{Direction}

-- directions of names that aren't known
abbrev pub opposed_faults : (List ℕ → Bool) → List Direction → List Fault
opposed_faults known ds = flat_map (λ (d : Direction). fault_if (not (known d.name.bytes)) UnknownPort d.name.place) ds

-- names without a direction
abbrev pub undirected_faults : (List ℕ → Bool) → List Name → List Fault
undirected_faults directed names = flat_map (λ (n : Name). fault_if (not (directed n.bytes)) UnknownName n.place) names
