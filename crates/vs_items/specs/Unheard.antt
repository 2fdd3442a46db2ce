-- The processes of a scope that aren't woken by what functions read, as the code goes through them.
use Rattle.std.specs.Prelude.{List, ◌++◌, flat_map}
use Rattle.vs_const.specs.declared.faults.Fault.{Fault}
use Rattle.vs_const.specs.Meanings.{Find}
use Rattle.vs_elaborated.specs.Unheard.{item_unheard, ports_unheard}
use Rattle.vs_scope.specs.declared.contents.Contents.{Contents}
use Rattle.vs_scope.specs.Contents.{contents_header, contents_items}

-- the header's, and the items'
abbrev pub scope_unheard : Find → Contents → List Fault
scope_unheard find c = ports_unheard find (contents_header c) ++ flat_map (item_unheard find) (contents_items c)
