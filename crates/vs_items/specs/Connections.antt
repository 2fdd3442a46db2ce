-- What connections say.
use Rattle.std.specs.Prelude.{◌≡◌, ℕ, false, List, [], ◌∷◌, map, flat_map, Option, None, Some}
use Rattle.std.specs.List.{list_any}
use Rattle.std.specs.Borrow.{Bor}
use Rattle.vs_design.specs.Clocks.{same_name}
use Rattle.vs_grammar.specs.Trees as tree
use Rattle.vs_ast.specs.declared.expressions.Expr.{Expr}
use Rattle.vs_ast.specs.Views as view
use Rattle.vs_elaborated.specs.Environments.{Env}
use Rattle.vs_elaborated.specs.Pieces as pieces
use Rattle.vs_elaborated.specs.Ports.{Port, find_port}
use Rattle.vs_elaborated.specs.Instances.{connected, directed}
use Rattle.vs_maps.specs.Maps.{Pair, value_at}
use Rattle.vs_items.specs.declared.connections.Connection.{Connection}
use Rattle.vs_items.specs.Noted.{AreFirst, named}

-- a connection, seen from where the instance stands
abbrev pub said_one : Env → Connection → List pieces.Connection
said_one env c = (directed c.name.now (Some c.input) (view.expr c.e.now) env).connections

-- and all of them
abbrev pub said : Env → List Connection → List pieces.Connection
said env cs = flat_map (said_one env) cs

-- ---- by names

-- a connection's name with what it is connected to
abbrev pub named_value : tree.NamedConnection → Pair (Option tree.Expr)
named_value c = named c.name.bytes c.e

abbrev pub value_of : Pair (Bor (Option Expr)) → Pair (Option tree.Expr)
value_of p = named p.name (view.option view.expr p.value.now)

-- the map has the first connection of each name of these
pub record AreNamed (ps : List (Pair (Bor (Option Expr)))) (cs : List tree.NamedConnection) : Type 0 where
  pub all : List (Pair (Bor (Option Expr)))
  pub first : AreFirst ps all
  pub are : map value_of all ≡ map named_value cs

-- what the port of this name is connected to, by the first connection of that name
abbrev pub connected_if : List Port → Env → List ℕ → Option (Option tree.Expr) → List pieces.Connection
connected_if ps env name None = []
connected_if ps env name (Some e) = (connected (find_port ps name) e env).connections

abbrev pub connected_at : List Port → List tree.NamedConnection → Env → List ℕ → List pieces.Connection
connected_at ps cs env name = connected_if ps env name (value_at name (map named_value cs))

-- no name is connected twice
abbrev pub AreApart : List tree.NamedConnection → Type 0
AreApart [] = Unit {0}
AreApart (c ∷ cs) = (list_any (λ (d : tree.NamedConnection). same_name d.name.bytes c.name.bytes) cs ≡ false) × AreApart cs
