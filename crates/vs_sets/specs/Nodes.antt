-- What a node of a lawful design names, its tree, and the signals of the design.
use Rattle.std.specs.Prelude.{ℕ}
use Rattle.vs_design.specs.Expressions as E
use Rattle.vs_flat.specs.Arena.{Arena}
use Rattle.vs_flat.specs.Trees.{signal_at}
use Rattle.vs_flat.specs.DesignOf.{arena_signals}
pub use Rattle.vs_shape.specs.Nodes.{EachBelow, HasNames, tree_of, place_of, tree_of_node}

abbrev pub signal_of : Arena → ℕ → E.Signal
signal_of a n = signal_at (arena_signals a) n
