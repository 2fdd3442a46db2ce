use Rattle.std.proofs.Common.{◌≡◌, ◌++◌, length, true, take}
use Rattle.vs_design.specs.Elaborated.{are_numbered}
use Rattle.vs_flat.specs.Trees.{signals_from}
use Rattle.vs_elab.specs.Functions.{inputs_of}
use Rattle.vs_elab.proofs.functions.push_inputs.Given as goal

-- those before this one
abbrev pub invariant-loop-p : goal.invariant-loop-p
invariant-loop-p l = are_numbered (length l.fn.list.items) 0 (inputs_of l.passed) ≡ true → signals_from 0 l.list.items ≡ signals_from 0 l.fn.list.items ++ inputs_of (take l.p-index l.passed)
