use Rattle.std.proofs.Common.{◌≡◌, ◌++◌, length, true, take}
use Rattle.vs_design.specs.Elaborated.{are_numbered}
use Rattle.vs_flat.specs.Trees.{signals_from}
use Rattle.vs_elab.specs.Functions.{signals_of}
use Rattle.vs_elab.proofs.functions.push_signals.Given as goal

-- those before this one
abbrev pub invariant-loop-s : goal.invariant-loop-s
invariant-loop-s l = are_numbered (length l.fn.list.items) 0 (signals_of l.signals) ≡ true → signals_from 0 l.list.items ≡ signals_from 0 l.fn.list.items ++ signals_of (take l.s-index l.signals)
