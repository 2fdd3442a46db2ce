use Rattle.std.proofs.Common.{◌≡◌, drop}
use Rattle.vs_stim.specs.Header.{expected_of}
use Rattle.vs_stim.proofs.heading.find_output.Given as goal

-- no output so far has the name
abbrev pub invariant-loop-number : goal.invariant-loop-number
invariant-loop-number l = expected_of l.number l.name (drop l.number l.outputs) ≡ expected_of 0 l.name l.outputs
