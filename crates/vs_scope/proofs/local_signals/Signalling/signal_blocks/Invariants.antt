use Rattle.std.proofs.Common.{map, take}
use Rattle.vs_scope.specs.Frames.{view_env}
use Rattle.vs_scope.specs.NamedBlocks.{IsSignedBlocks, named}
use Rattle.vs_scope.proofs.local_signals.Signalling.signal_blocks.Given as goal

abbrev pub invariant-loop-b : goal.invariant-loop-b
invariant-loop-b l = IsSignedBlocks l.fn.self l.self (view_env l.here) (map named (take l.b-index l.blocks))
