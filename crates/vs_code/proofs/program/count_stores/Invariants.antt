use Rattle.std.proofs.Common.{◌≡◌, take, sum_by}
use Rattle.vs_code.specs.Placed.{cost_at}
use Rattle.vs_code.proofs.program.count_stores.Given as goal

-- the stores of the calls so far
abbrev pub invariant-loop-call : goal.invariant-loop-call
invariant-loop-call l = l.count ≡ sum_by cost_at (take l.call-index l.calls)
