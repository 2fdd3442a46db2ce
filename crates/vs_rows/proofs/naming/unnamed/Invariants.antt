use Rattle.std.proofs.Common.{◌≡◌, drop}
use Rattle.vs_rows.specs.Naming as spec
use Rattle.vs_rows.proofs.naming.unnamed.Given as goal

abbrev pub invariant-loop-input : goal.invariant-loop-input
invariant-loop-input l = spec.unnamed l.header l.starts (drop l.input-index l.inputs) ≡ spec.unnamed l.header l.starts l.inputs
