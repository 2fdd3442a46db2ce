use Rattle.std.proofs.Common.{◌≡◌, drop}
use Rattle.vs_stim.specs.Header.{column_of}
use Rattle.vs_stim.proofs.heading.find.Given as goal

-- no input so far has the name
abbrev pub invariant-loop-number : goal.invariant-loop-number
invariant-loop-number l = column_of l.number l.name (drop l.number l.inputs) ≡ column_of 0 l.name l.inputs
