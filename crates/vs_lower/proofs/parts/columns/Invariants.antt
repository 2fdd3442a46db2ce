use Rattle.std.proofs.Common.{◌≡◌}
use Rattle.vs_flat.specs.DesignOf.{arena_signals}
use Rattle.vs_flat.specs.Trees.{signal_at}
use Rattle.vs_lower.proofs.Columns.{columns_from}
use Rattle.vs_lower.proofs.parts.columns.Given as goal

abbrev pub invariant-loop-n : goal.invariant-loop-n
invariant-loop-n l = l.bits.items ≡ columns_from (signal_at (arena_signals l.templates.arena) l.signal) l.places 0 l.n
