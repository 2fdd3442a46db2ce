use Rattle.std.proofs.Common.{◌≡◌}
use Rattle.vs_bench.specs.Texts.{state, stimulus}
use Rattle.vs_bench.proofs.texts.stimulus_text.Given as goal

abbrev pub invariant-loop-vector : goal.invariant-loop-vector
invariant-loop-vector l = record {
  text : l.text.items ≡ stimulus l.lane l.vector;
  state : l.state ≡ state l.lane l.vector;
}
