-- Functions of a scope that can be built (IEEE 1364-2005, 10.4).
use Rattle.std.specs.Prelude.{◌≡◌, ◌≤◌, ◌+◌, ◌^◌, ℕ, true, List, [], ◌∷◌, ◌++◌, length, map, take, drop, sum_by, None, Some}
use Rattle.vs_design.specs.Expressions as design
use Rattle.vs_design.specs.Expressions.{signal_length, local_signals}
use Rattle.vs_design.specs.Statements as T
use Rattle.vs_design.specs.Designs.{Design}
use Rattle.vs_design.specs.Elaborated.{are_numbered, is_formed_header}
use Rattle.vs_grammar.specs.Trees as tree
use Rattle.vs_flat.specs.declared.functions.Function.{Function}
use Rattle.vs_flat.specs.Trees.{signals_from}
use Rattle.vs_elaborated.specs.Limits.{the_limits}
use Rattle.vs_elaborated.specs.Environments.{Entry, Env, within}
use Rattle.vs_elaborated.specs.Declarations.{Declaration, FunctionOf}
use Rattle.vs_elaborated.specs.Statements.{typed_statement}
use Rattle.vs_elaborated.specs.Functions as spec
use Rattle.vs_elaborated.specs.Functions.{Counts, locals_in, header_of, function_names, function_body, next_function, put_function}
use Rattle.vs_scope.specs.declared.inside.Locals.{Locals}
use Rattle.vs_scope.specs.declared.names.LocalSignal.{LocalSignal}
use Rattle.vs_scope.specs.declared.names.PassedInput.{PassedInput}
use Rattle.vs_scope.specs.Locals.{local_meaning, passed_of}
use Rattle.vs_build.specs.Drafts.{Draft, home_in}
use Rattle.vs_build.specs.Executable.{IsExecutable}

-- ---- headers

-- local signals, in the design
abbrev pub signals_of : List LocalSignal → List design.Signal
signals_of ss = map (λ (s : LocalSignal). (local_meaning s).signal) ss

-- inputs that pass signals of the module
abbrev pub inputs_of : List PassedInput → List design.Signal
inputs_of ps = map (λ (p : PassedInput). (passed_of p).input.signal) ps

-- all of a function: those that pass signals of its module come behind the inputs that it declares
abbrev pub all_signals : Locals → List design.Signal
all_signals c = signals_of (take c.inputs c.signals.items) ++ (inputs_of c.passed.items ++ signals_of (drop c.inputs c.signals.items))

-- a header with these local signals, which have their numbers from 0 on
pub record IsHeader (h : Function) (place : ℕ) (c : Locals) : Type 0 where
  pub at : h.at ≡ place
  pub inputs : h.inputs ≡ c.inputs + length c.passed.items
  pub signals : are_numbered 0 0 (all_signals c) ≡ true → signals_from 0 h.signals ≡ all_signals c

-- ---- one function

-- the header of a function that stands here
abbrev pub header_in : (scope : ℕ) → Env → tree.Function → design.Header
header_in scope env f = header_of f (locals_in scope env f)

-- it can be built
pub record CanBuild (d : Design) (scope : ℕ) (env : Env) (f : tree.Function) : Type 0 where
  pub formed : is_formed_header d (header_in scope env f) ≡ true
  pub few : sum_by signal_length (local_signals (header_in scope env f)) ≤ 2 ^ 20
  pub executable : IsExecutable (home_in d (Some (header_in scope env f))) (function_body (locals_in scope env f)) (function_names scope env f) f.statement

-- what is built then
abbrev pub function_in : (scope : ℕ) → Env → tree.Function → T.Function
function_in scope env f =
    record { header = header_in scope env f; statement = (typed_statement f.statement (function_body (locals_in scope env f)) (function_names scope env f)).statement }

-- with these functions more
abbrev pub and_functions : Draft → List T.Function → Draft
and_functions s fs = record s { design = record s.design { functions = s.design.functions ++ fs } }

-- ---- all of a scope

-- the design with a function more
abbrev pub with_function : Design → T.Function → Design
with_function d f = record d { functions = d.functions ++ f ∷ [] }

-- the function that another one's statement sees
abbrev pub function_of : spec.SaidFunction → T.Function
function_of s = record { header = s.meaning.header; statement = s.meaning.statement }

-- each can be built behind those before it, which it sees
abbrev pub AreBuildable : Design → (scope : ℕ) → (outer : Env) → Counts → List Entry → List Declaration → Type 0
AreBuildable d scope outer counts es [] = Unit {0}
AreBuildable d scope outer counts es (x ∷ xs) = elim x.sort [
  | FunctionOf f ↦
      (let s = next_function the_limits scope (within outer es) counts f in
      CanBuild d scope (within outer es) f × (function_in scope (within outer es) f ≡ function_of s)
      × AreBuildable (with_function d (function_of s)) scope outer (spec.and_function counts s) (put_function x.name.bytes s.meaning es) xs)
  | _ ↦ AreBuildable d scope outer counts es xs
]

-- nothing is left that no statement or process names, and no function is begun
pub record IsIdle (s : Draft) : Type 0 where
  pub outside : s.function ≡ None
  pub expressions : s.expressions ≡ []
  pub statements : s.statements ≡ []
