-- The ports of a table by their names.
use Rattle.std.proofs.Common.{◌≡◌, ℕ, Bool, true, false, List, [], ◌∷◌, map, Option, Some, option_map, if◌then◌else◌, refl, sym, ap, ◌∙◌}
use Rattle.vs_design.specs.Clocks.{same_name}
use Rattle.vs_elaborated.specs.Ports as ports
use Rattle.vs_elaborated.specs.Ports.{find_port}
use Rattle.vs_maps.specs.Maps.{value_at}
use Rattle.vs_scope.proofs.Entries.{same_is}
use Rattle.vs_maps.specs.MapViews.{pairs}
use Rattle.vs_items.specs.declared.ports.Ports.{Ports}
use Rattle.vs_items.specs.Ports.{named_port}
use Rattle.vs_items.specs.PortTables.{ArePorts}
use Rattle.vs_items.proofs.Directions.{same_port}

abbrev pub port : List ℕ → Option Bool → ports.Port
port name input = record { name = name; input = input }

port_found : (ps : List ports.Port) (name : List ℕ) → option_map (port name) (value_at name (map named_port ps)) ≡ find_port ps name
port_found [] name = refl
port_found (p ∷ ps) name = by (same_name p.name name) refl (port_found ps name)
  where
    by : (b : Bool) → same_name p.name name ≡ b → option_map (port name) (value_at name (map named_port ps)) ≡ find_port ps name
        → option_map (port name) (if b then Some p.input else value_at name (map named_port ps)) ≡ (if b then Some p else find_port ps name)
    by true e h = ap Some (same_port name p.name p.input p.input (sym (same_is p.name name e)) refl)
    by false e h = h

-- what a look-up finds
pub found_in : (t : Ports) (ps : List ports.Port) (name : List ℕ) (v : Option (Option Bool)) → v ≡ value_at name (pairs t.inputs) → ArePorts t ps → option_map (port name) v ≡ find_port ps name
found_in t ps name v is a = ap (option_map (port name)) (is ∙ a.inputs.each name) ∙ port_found ps name
