-- The signal that a select takes bits of.
use Rattle.std.proofs.Common.{◌≡◌, ℕ, zero, suc, ◌+◌, ◌≤◌, ◌<◌, ◌==◌, true, List, [], ◌∷◌, length, sym, ap, ◌∙◌, arith, Some}
use Rattle.std.specs.Prelude.{slice_get}
use Rattle.std.proofs.lemmas.Bool.{eqb-true}
use Rattle.vs_four.specs.declared.Range.{Range}
use Rattle.vs_four.specs.Selects.{range_length}
use Rattle.vs_design.specs.Expressions as E
use Rattle.vs_design.specs.Fits.{source_length}
use Rattle.vs_flat.specs.declared.processes.Signal.{Signal}
use Rattle.vs_flat.specs.declared.expressions.Node.{Node}
use Rattle.vs_flat.specs.declared.expressions.Node.TheVariants as N
use Rattle.vs_flat.specs.Arena.{Arena, signal_length}
use Rattle.vs_flat.specs.Lawful.{IsLawful}
use Rattle.vs_flat.specs.Laws.{EachSignal, HasCounts}
use Rattle.vs_flat.specs.Targets.{source_of}
use Rattle.vs_flat.specs.Trees.{signal_of, signal_at}
use Rattle.vs_flat.specs.DesignOf.{arena_signals, local_of}
use Rattle.vs_shape.specs.Nodes.{tree_of, place_of, tree_of_node}
use Rattle.vs_shape.proofs.Gathering.{tree_is}
use Rattle.vs_shape.proofs.SignalBits.{signal_room}

-- a signal of the design has room, and a select of a signal has all its bits for a range
pub name_room : EachSignal → ((a : Arena) → HasCounts a) → (a : Arena) → IsLawful a → (n : ℕ) (s : Signal) → slice_get a.signals n ≡ Some s → s.first_bit + signal_length s ≤ 67108864
name_room each counts a lawful n s at = let l = short a.signals n s at in let r = signal_room each counts a lawful n s at l in omega (arith, r)
  where
    short : (xs : List Signal) (k : ℕ) (x : Signal) → slice_get xs k ≡ Some x → k < length xs
    short [] k x h = cc
    short (y ∷ xs) zero x h = omega arith
    short (y ∷ xs) (suc k) x h = let l = short xs k x h in omega (arith, l)

pub name_range : EachSignal → (a kept : Arena) (of n : ℕ) (node : Node) (s : Signal) → kept ≡ a → tree_of kept of ≡ E.At (place_of kept of) (tree_of_node kept node) → node ≡ N.Name n → slice_get kept.signals n ≡ Some s
    → (range : Range) → (range_length range == source_length (source_of (tree_of a of))) ≡ true → range_length range ≡ signal_length s
name_range each a kept of n node s same tree is at range h =
    eqb-true (range_length range) (source_length (source_of (tree_of a of))) h
    ∙ ap source_length (ap source_of (tree_is a kept of node (N.Name n) same tree is))
    ∙ ap (λ (x : Arena). E.signal_length (signal_at (arena_signals x) n)) (sym same)
    ∙ ap E.signal_length (each kept n s at)

pub local_range : (a kept : Arena) (of f n : ℕ) (node : Node) (s : Signal) → kept ≡ a → tree_of kept of ≡ E.At (place_of kept of) (tree_of_node kept node) → node ≡ N.Local f n → local_of kept f n ≡ signal_of n s
    → (range : Range) → (range_length range == source_length (source_of (tree_of a of))) ≡ true → range_length range ≡ signal_length s
local_range a kept of f n node s same tree is named range h =
    eqb-true (range_length range) (source_length (source_of (tree_of a of))) h
    ∙ ap source_length (ap source_of (tree_is a kept of node (N.Local f n) same tree is))
    ∙ ap (λ (x : Arena). E.signal_length (local_of x f n)) (sym same)
    ∙ ap E.signal_length named
