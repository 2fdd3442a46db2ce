-- What is found of the header and the items of a scope: their first fault, and how many processes there are with theirs.
use Rattle.std.specs.Prelude.{◌≡◌, ◌≤◌, ◌+◌, ◌++◌, ℕ, List, None, sum_by}
use Rattle.vs_grammar.specs.Trees.{Source}
use Rattle.vs_const.specs.declared.faults.Fault.{Fault}
use Rattle.vs_const.specs.Faults.{least}
use Rattle.vs_elaborated.specs.Limits.{the_limits}
use Rattle.vs_elaborated.specs.Generate.{Made}
use Rattle.vs_elaborated.specs.Instances.{Around}
use Rattle.vs_elaborated.specs.Pieces.{Said, both_said}
use Rattle.vs_elaborated.specs.Surveys.{Loops, ports_said, items_said, piece_processes, processes_over}
use Rattle.vs_scope.specs.declared.contents.Contents.{Contents}
use Rattle.vs_scope.specs.Contents.{contents_header, contents_items}
use Rattle.vs_items.specs.declared.bodies.SaidItems.{SaidItems}

-- the header before the items
abbrev pub scope_said : Source → Around → Loops → Contents → List Made → Said
scope_said source around loops c made = both_said (ports_said around.env (contents_header c)) (items_said the_limits source around loops (contents_items c) made)

-- where there are `before` processes before the scope and may be `most`: the first of the faults that the items say, of the first piece with which there are
-- too many processes, and of the processes that aren't woken by what functions read; and how many there are with those of the pieces, where there is no fault
pub record IsSaid (r : SaidItems) (most before : ℕ) (said : Said) (unheard : List Fault) : Type 0 where
  pub fault : r.fault ≡ least (said.faults ++ (processes_over most before said.pieces ++ unheard))
  pub processes : r.fault ≡ None → r.processes ≡ before + sum_by piece_processes said.pieces
  pub few : r.processes ≤ most
