-- What the code finds of the declarations of a scope.
use Rattle.std.specs.Prelude.{◌≡◌, ◌+◌, false, length, map}
use Rattle.vs_const.specs.Faults.{least}
use Rattle.vs_elaborated.specs.Environments.{Env}
use Rattle.vs_elaborated.specs.Functions.{Counts}
use Rattle.vs_elaborated.specs.Pieces.{Contents}
use Rattle.vs_elaborated.specs.Signals.{Start}
use Rattle.vs_elaborated.specs.Surveys.{declarations_of, overrides_of}
use Rattle.vs_scope.specs.declared.scope.SaidScope.{SaidScope}
use Rattle.vs_scope.specs.Scopes.{said_faults}
use Rattle.vs_scope.specs.Signalled.{placed, placed_of, start_after, start_of}
use Rattle.vs_scope.specs.Complete.{KeepsShapes, complete, function_declaration}
use Rattle.vs_scope.specs.Counts.{counted}
use Rattle.vs_scope.specs.Functions.{functions_in}
use Rattle.vs_scope.specs.Surveys.{counts_behind, declared_in, signals_in}
use Rattle.vs_scope.specs.Views.{entries}
use Rattle.vs_scope.specs.Again.{AreSeen}

-- the next scope, which isn't the top
abbrev pub scope_after : Start → Start
scope_after s = record { scope = s.scope + 1; top = false; signal = s.signal; bit = s.bit }

-- of a scope's declarations
pub record IsDeclared (c : SaidScope) (env : Env) (contents : Contents) (start : Start) (before : Counts) : Type 0 where
  pub entries_are : complete env c.names ≡ declared_in env contents start before
  pub kept_is : KeepsShapes env c.names
  pub plain_is : c.names.plain ≡ length (entries c.names)
  pub seen_is : AreSeen c.names env contents start before
  pub functions_are : map function_declaration c.names.functions.items ≡ functions_in (declarations_of contents)
  pub counts_is : counted c.counts ≡ counts_behind env contents start before
  pub signals_are : map placed c.signals.items ≡ map placed_of (signals_in env contents start)
  pub fault_is : c.fault ≡ least (said_faults env (overrides_of contents) start before (declarations_of contents))
  pub next_is : start_of c.next ≡ start_after start (signals_in env contents start)
