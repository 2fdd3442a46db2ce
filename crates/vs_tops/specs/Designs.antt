-- The design of a text from its top (IEEE 1364-2005, 12.1).
use Rattle.std.specs.Prelude.{◌≡◌, ℕ, List, [], Option, Some, None, option_and_then, Result}
use Rattle.vs_grammar.specs.Trees.{Module, Source}
use Rattle.vs_const.specs.declared.faults.Fault.{Fault}
use Rattle.vs_design.specs.Designs.{Design}
use Rattle.vs_elaborated.specs.Limits.{the_limits}
use Rattle.vs_elaborated.specs.Ports.{find_module}
use Rattle.vs_elaborated.specs.Elaborated.{unless_fault, repeated_modules, elaborated_top, elaborated}
use Rattle.vs_tops.specs.Tops.{own_top, top_name}

-- the module of this name, if there is a name, and a module of it
abbrev pub named_module : Source → (name : Option (List ℕ)) → Option Module
named_module source name = option_and_then (find_module source) name

-- the design where the top has this name: no module is declared twice, then there is a top, and it is read
abbrev pub elaborated_by : Source → (name : Option (List ℕ)) → Result Design Fault
elaborated_by source name = unless_fault (repeated_modules [] source.modules) λ u. elaborated_top the_limits source (named_module source name)

-- the design of a text's tree from its top, where this one is given or none, or the first rule that is broken
abbrev pub elaborated_from : Source → (given : Option (List ℕ)) → Result Design Fault
elaborated_from source given = elaborated_by source (top_name source given)

-- from a top that is given it is the design from that
abbrev pub GivenIsElaborated : Type 0
GivenIsElaborated = (source : Source) (top : List ℕ) → elaborated_from source (Some top) ≡ elaborated source top

-- and where none is given that from the text's own top, as if its name were given
abbrev pub OwnIsElaborated : Type 0
OwnIsElaborated = (source : Source) (top : List ℕ) → own_top source ≡ Some top → elaborated_from source None ≡ elaborated source top
