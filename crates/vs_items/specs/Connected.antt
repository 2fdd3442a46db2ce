-- Which names may be connected.
use Rattle.std.specs.Prelude.{ℕ, Bool, true, not, List, Option, None, Some, is_some, if◌then◌else◌}
use Rattle.std.specs.Borrow.{Bor}
use Rattle.vs_grammar.specs.Trees.{Name}
use Rattle.vs_const.specs.declared.faults.Fault.{Fault}
use Rattle.vs_const.specs.Faults.{fault, fault_if}
use Rattle.vs_const.specs.declared.rules.Rule.TheVariants.{DuplicateName, UnknownPort}
use Rattle.vs_maps.specs.declared.maps.NameMap.{NameMap}
use Rattle.vs_maps.specs.Maps.{value_at}
use Rattle.vs_maps.specs.MapViews.{pairs}

-- one of these, or any where nothing is known of them
abbrev pub is_known : {V : Type 0} → Option (Bor (NameMap V)) → List ℕ → Bool
is_known None name = true
is_known (Some names) name = is_some (value_at name (pairs names.now))

-- what is wrong with a name that is connected, `again` if it was before
abbrev pub name_faults : (List ℕ → Bool) → (again : Bool) → Name → List Fault
name_faults known again name = if again then fault DuplicateName name.place else fault_if (not (known name.bytes)) UnknownPort name.place
