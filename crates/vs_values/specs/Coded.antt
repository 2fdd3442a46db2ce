-- What clauses see of calls that are being added.
use Rattle.std.specs.Prelude.{ℕ, List, [], ◌∷◌, ◌++◌, ◌+◌}
use Rattle.vs_code.specs.declared.kernels.AnyKernel.{AnyKernel}
use Rattle.vs_code.specs.Calls.{Call}
use Rattle.vs_values.specs.Added.{fresh_call}

-- the calls so far, and the least slot that is new
pub record Coding : Type 0 where
  pub calls : List Call
  pub next : ℕ

-- with one call more, whose value gets new slots
abbrev pub with_call : Coding → AnyKernel → List (List ℕ) → ℕ → Coding
with_call code kernel args width = record { calls = code.calls ++ fresh_call kernel args code.next width ∷ []; next = code.next + width }
