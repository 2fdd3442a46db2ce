use Rattle.std.proofs.Common.{◌≡◌, ◌++◌, map, drop}
use Rattle.vs_flat.specs.DesignOf.{arena_signals}
use Rattle.vs_program.specs.Compiled.{span_of}
use Rattle.vs_assemble.proofs.frames.spans.Given as goal

-- the spans so far, and those of the rest of the signals
abbrev pub invariant-loop-n : goal.invariant-loop-n
invariant-loop-n l = l.spans.items ++ map span_of (drop l.n (arena_signals l.flat)) ≡ map span_of (arena_signals l.flat)
