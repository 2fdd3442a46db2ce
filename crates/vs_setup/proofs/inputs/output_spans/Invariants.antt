use Rattle.std.proofs.Common.{◌≡◌, ◌++◌, drop, map}
use Rattle.std.specs.List.{filter}
use Rattle.vs_flat.specs.DesignOf.{arena_signals}
use Rattle.vs_program.specs.Compiled.{span_of}
use Rattle.vs_rounds.specs.Inputs.{is_output}
use Rattle.vs_setup.proofs.inputs.output_spans.Given as goal

-- the bits of the outputs so far, and those among the rest of the signals
abbrev pub invariant-loop-n : goal.invariant-loop-n
invariant-loop-n l = l.spans.items ++ map span_of (filter (is_output l.names) (drop l.n (arena_signals l.flat))) ≡ map span_of (filter (is_output l.names) (arena_signals l.flat))
