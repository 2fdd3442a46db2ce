-- A function of a lawful design as it is called.
use Rattle.std.specs.Prelude.{◌≡◌, ◌≤◌, ◌<◌, ◌+◌, ℕ, suc, true, length, Some}
use Rattle.vs_design.specs.Expressions as E
use Rattle.vs_design.specs.Within.{statement_within}
use Rattle.vs_flat.specs.declared.functions.Body.{Body}
use Rattle.vs_flat.specs.Arena.{Arena, body_at, bit_count, declared_at}
use Rattle.vs_flat.specs.Named.{locals_in}
use Rattle.vs_sets.specs.Calls.{NamesBelow, function_of}
use Rattle.vs_sets.specs.StatementParts.{statement_of}
use Rattle.vs_interpret.specs.declared.calls.Callee.{Callee}

pub record IsCallee (a : Arena) (function : ℕ) (c : Callee) : Type 0 where
  pub there : c.statement < length a.statements
  pub is : (function_of a function).statement ≡ statement_of a c.statement
  -- where its statement names expressions
  pub few : c.nodes ≤ length a.nodes
  pub before : (e : ℕ) → ((b : Body) → body_at a function ≡ Some b → b.nodes ≤ e) → c.nodes ≤ e
  pub names : NamesBelow a c.nodes (suc c.statement)
  -- and bits
  pub len : c.len ≡ bit_count (locals_in (declared_at a function))
  pub within : statement_within c.len (statement_of a c.statement) ≡ true
  pub result_first : c.result.first ≡ (function_of a function).header.result.first
  pub result_len : c.result.len ≡ E.signal_length (function_of a function).header.result
  pub result_within : c.result.first + c.result.len ≤ c.len
