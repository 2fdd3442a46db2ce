-- What a scope declares, but for its generate blocks.
use Rattle.std.specs.Prelude.{ℕ, List, [], ◌++◌, flat_map}
use Rattle.vs_const.specs.declared.faults.Fault.{Fault}
use Rattle.vs_elaborated.specs.Limits.{the_limits}
use Rattle.vs_elaborated.specs.Environments.{Entry, Env, within}
use Rattle.vs_elaborated.specs.Functions.{Counts, SaidFunctions, said_functions}
use Rattle.vs_elaborated.specs.Declarations.{Declaration, names_of, repeated_names}
use Rattle.vs_elaborated.specs.Parameters.{Override, SaidEntries, first_entries, said_parameters}
use Rattle.vs_elaborated.specs.Signals.{Start, SaidSignal, said_signals, range_faults, put_signals}
use Rattle.vs_scope.specs.Signalled.{faults_of}

-- the parameters have their values
abbrev pub evaluated_entries : (scope : ℕ) → Env → List Override → List Declaration → SaidEntries
evaluated_entries scope env overrides ds = said_parameters env overrides ds (first_entries scope (names_of ds))

-- the signals, by the names and the values of the parameters
abbrev pub said_signals_of : Env → List Override → Start → List Declaration → List SaidSignal
said_signals_of env overrides start ds = said_signals (within env (evaluated_entries start.scope env overrides ds).entries) start (names_of ds)

-- the names with all values and signals
abbrev pub said_entries : Env → List Override → Start → List Declaration → List Entry
said_entries env overrides start ds = put_signals (said_signals_of env overrides start ds) (evaluated_entries start.scope env overrides ds).entries

-- the functions, behind these counts
abbrev pub said_functions_of : Env → List Override → Start → Counts → List Declaration → SaidFunctions
said_functions_of env overrides start before ds = said_functions the_limits start.scope env before ds (said_entries env overrides start ds)

-- the faults of all declarations but for functions
abbrev pub plain_faults : Env → List Override → Start → List Declaration → List Fault
plain_faults env overrides start ds =
    repeated_names [] ds
    ++ ((evaluated_entries start.scope env overrides ds).faults
    ++ (range_faults (within env (evaluated_entries start.scope env overrides ds).entries) ds ++ flat_map faults_of (said_signals_of env overrides start ds)))

-- and with them
abbrev pub said_faults : Env → List Override → Start → Counts → List Declaration → List Fault
said_faults env overrides start before ds = plain_faults env overrides start ds ++ (said_functions_of env overrides start before ds).faults
