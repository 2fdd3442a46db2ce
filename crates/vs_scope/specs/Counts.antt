-- The counts of functions and of what their loops copy.
use Rattle.vs_elaborated.specs.Functions.{Counts}
use Rattle.vs_scope.specs.declared.counts.Counts.{Counts as CountsOf}

-- as the definitions have them
abbrev pub counted : CountsOf → Counts
counted c = record { copies = c.copies; functions = c.functions }
