-- The parts of a target that are no concatenations, in the order of the text.
use Rattle.std.specs.Prelude.{◌≡◌, ℕ, ◌<◌, length, All, List, [], ◌∷◌, ◌++◌, map}
use Rattle.vs_design.specs.Expressions.{Signal}
use Rattle.vs_design.specs.Statements.{Target, Whole, PartOf, WordOf, WordPartOf, Both}
use Rattle.vs_flat.specs.Arena.{Arena, declared_at}
use Rattle.vs_flat.specs.DesignOf.{arena_signals, arena_trees, local_of}
use Rattle.vs_flat.specs.Named.{locals_in}
use Rattle.vs_flat.specs.Trees.{signal_at, tree_at, no_signal}
use Rattle.vs_values.specs.Templates.{Templated, node_bound}
use Rattle.vs_lower.specs.declared.leaves.Leaf.{Leaf}
use Rattle.vs_lower.specs.declared.leaves.Leaf.TheVariants as L
use Rattle.vs_lower.specs.declared.named.Named.{Named}
use Rattle.vs_lower.specs.declared.named.Named.TheVariants as N

abbrev pub leaves_of : Target → List Target
leaves_of (Whole signal) = Whole signal ∷ []
leaves_of (PartOf signal part index) = PartOf signal part index ∷ []
leaves_of (WordOf signal index) = WordOf signal index ∷ []
leaves_of (WordPartOf signal address part index) = WordPartOf signal address part index ∷ []
leaves_of (Both high low) = leaves_of high ++ leaves_of low

-- the concatenation of these, which are some
abbrev pub joined_target : List Target → Target
joined_target [] = Whole no_signal
joined_target (t ∷ []) = t
joined_target (t ∷ next ∷ ts) = Both t (joined_target (next ∷ ts))

-- the signal that is named, and its number
abbrev pub named_signal : Arena → Named → Signal
named_signal a (N.Global signal) = signal_at (arena_signals a) signal
named_signal a (N.Local function signal) = local_of a function signal

abbrev pub named_number : Named → ℕ
named_number (N.Global signal) = signal
named_number (N.Local function signal) = signal

-- it is there
abbrev pub IsNamed : Arena → Named → Type 0
IsNamed a (N.Global signal) = signal < length a.signals
IsNamed a (N.Local function signal) = (function < length a.functions) × (signal < length (locals_in (declared_at a function)))

-- the target that such a part is
abbrev pub leaf_target : Arena → Leaf → Target
leaf_target a (L.Whole signal) = Whole (named_signal a signal)
leaf_target a (L.Select signal range up width index) = PartOf (named_signal a signal) (record { range = range; up = up; width = width }) (tree_at (arena_trees a) index)
leaf_target a (L.Word signal index) = WordOf (signal_at (arena_signals a) signal) (tree_at (arena_trees a) index)
leaf_target a (L.WordPart signal address range up width index) =
    WordPartOf (signal_at (arena_signals a) signal) (tree_at (arena_trees a) address) (record { range = range; up = up; width = width }) (tree_at (arena_trees a) index)

-- what it is a part of
abbrev pub leaf_name : Leaf → Named
leaf_name (L.Whole signal) = signal
leaf_name (L.Select signal range up width index) = signal
leaf_name (L.Word signal index) = N.Global signal
leaf_name (L.WordPart signal address range up width index) = N.Global signal

-- what it names is there, and its index calls functions that have been looked at alone
abbrev pub IsInside : Templated → Leaf → Type 0
IsInside t (L.Whole signal) = IsNamed t.arena signal
IsInside t (L.Select signal range up width index) = IsNamed t.arena signal × (index < node_bound t)
IsInside t (L.Word signal index) = (signal < length t.arena.signals) × (index < node_bound t)
IsInside t (L.WordPart signal address range up width index) = (signal < length t.arena.signals) × (address < node_bound t) × (index < node_bound t)

-- parts of these targets stand behind those before
pub record AddsLeaves (t : Templated) (old new : List Leaf) (targets : List Target) : Type 0 where
  pub leaves : List Leaf
  pub is : new ≡ old ++ leaves
  pub are : map (leaf_target t.arena) leaves ≡ targets
  pub inside : All (IsInside t) leaves
