-- Which expressions and statements call the first functions alone (IEEE 1364-2005, 10.4): those that were there when the next one got its statement. A function so calls functions before it alone.
use Rattle.std.specs.Prelude.{◌<◌, ℕ, length, Option, Some, None}
use Rattle.vs_flat.specs.declared.expressions.Node.{Node}
use Rattle.vs_flat.specs.declared.expressions.Node.TheVariants.{Call}
use Rattle.vs_flat.specs.declared.functions.Body.{Body}
use Rattle.vs_flat.specs.Arena.{Arena, body_at}

abbrev pub nodes_in : ℕ → Option Body → ℕ
nodes_in all None = all
nodes_in all (Some b) = b.nodes

abbrev pub statements_in : ℕ → Option Body → ℕ
statements_in all None = all
statements_in all (Some b) = b.statements

-- how many expressions there were when the function after so many got its statement, and all where there is none
abbrev pub node_reach : Arena → ℕ → ℕ
node_reach a count = nodes_in (length a.nodes) (body_at a count)

abbrev pub statement_reach : Arena → ℕ → ℕ
statement_reach a count = statements_in (length a.statements) (body_at a count)

-- what a node calls is one of the first functions
abbrev pub CallsFirst : ℕ → Node → Type 0
CallsFirst count (Call function arguments) = function < count
CallsFirst count _ = Unit {0}
