use Rattle.std.proofs.Common.{◌≡◌, length}
use Rattle.vs_typed.specs.Weights.{AreWeights}
use Rattle.vs_typed.proofs.functions.function_weights.Given as goal

abbrev pub invariant-loop-f : goal.invariant-loop-f
invariant-loop-f l = AreWeights l.shapes l.table.items × (length l.table.items ≡ l.f)
