use Rattle.std.proofs.Common.{◌≡◌, ◌++◌, drop}
use Rattle.vs_flat.specs.DesignOf.{arena_signals}
use Rattle.vs_assemble.proofs.Signals.{shown_spans}
use Rattle.vs_assemble.proofs.frames.shown.Given as goal

-- the spans so far, and those of the rest of the signals
abbrev pub invariant-loop-n : goal.invariant-loop-n
invariant-loop-n l = l.shown.items ++ shown_spans (drop l.n (arena_signals l.flat)) ≡ shown_spans (arena_signals l.flat)
