-- What a node of a lawful design names, and its tree.
use Rattle.std.specs.Prelude.{◌<◌, ℕ, List, length, slice_index, unwrap_or}
use Rattle.vs_design.specs.Expressions as E
use Rattle.vs_flat.specs.declared.expressions.Node.{Node}
use Rattle.vs_flat.specs.declared.expressions.Node.TheVariants.{Literal, Name, Bit, Part, Word, WordPart, Unary, Binary, Choice, Join, Local, Call}
use Rattle.vs_flat.specs.Arena.{Arena, node_place, declared_at}
use Rattle.vs_flat.specs.Named.{locals_in}
use Rattle.vs_flat.specs.Trees.{tree_at, node_tree}
use Rattle.vs_flat.specs.DesignOf.{arena_names, arena_trees}

abbrev pub EachBelow : ℕ → List ℕ → Type 0
EachBelow n ms = (k : ℕ) → k < length ms → slice_index ms k < n

-- its signal is one of these many, and its expressions have numbers below this
abbrev pub HasNames : (signals e : ℕ) → Node → Type 0
HasNames signals e (Literal bits signed sized) = Unit {0}
HasNames signals e (Name signal) = signal < signals
HasNames signals e (Bit of range index) = (of < e) × (index < e)
HasNames signals e (Part of range base up width) = (of < e) × (base < e)
HasNames signals e (Word signal index) = (signal < signals) × (index < e)
HasNames signals e (WordPart signal address range base up width) = (signal < signals) × (address < e) × (base < e)
HasNames signals e (Unary op a) = a < e
HasNames signals e (Binary op a b) = (a < e) × (b < e)
HasNames signals e (Choice c p q) = (c < e) × (p < e) × (q < e)
HasNames signals e (Join parts) = EachBelow e parts
HasNames signals e (Local function signal) = Unit {0}
HasNames signals e (Call function arguments) = EachBelow e arguments

-- a local signal that is named is there, and so is a function that is called
abbrev pub HasCalls : Arena → Node → Type 0
HasCalls a (Local function signal) = (function < length a.functions) × (signal < length (locals_in (declared_at a function)))
HasCalls a (Call function arguments) = function < length a.functions
HasCalls a _ = Unit {0}

-- the tree of an expression, and that of a node of the design
abbrev pub tree_of : Arena → ℕ → E.Expression
tree_of a e = tree_at (arena_trees a) e

abbrev pub place_of : Arena → ℕ → ℕ
place_of a e = unwrap_or (node_place a e) 0

abbrev pub tree_of_node : Arena → Node → E.Expression
tree_of_node a n = node_tree (arena_names a) (tree_of a) n
