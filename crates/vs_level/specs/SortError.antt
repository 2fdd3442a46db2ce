-- Why the nodes of a graph have no order.
use Rattle.vs_design.specs.Designs.{Design}
use Rattle.vs_design.specs.Cycles.{IsCycle}
use Rattle.vs_level.specs.declared.search.SortError.{SortError}
use Rattle.vs_level.specs.declared.search.SortError.TheVariants.{Circle, Memory}
use Rattle.vs_level.specs.Graph.{Feeding, IsCircle}

abbrev pub IsSortError : Feeding → SortError → Type 0
IsSortError g (Circle ps) = IsCircle g ps.items
IsSortError g Memory = Unit {0}

-- in a design
abbrev pub IsSortErrorOf : Design → SortError → Type 0
IsSortErrorOf d (Circle ps) = IsCycle d ps.items
IsSortErrorOf d Memory = Unit {0}
