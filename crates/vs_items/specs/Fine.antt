-- Connections that break no rule, whatever the design that they are built in.
use Rattle.std.specs.Prelude.{◌≡◌, ◌≤◌, ℕ, suc, List, [], ◌∷◌, slice_get, Option, Some}
use Rattle.vs_grammar.specs.Trees as tree
use Rattle.vs_grammar.specs.Shapes.{Given, IsExpr}
use Rattle.vs_grammar.specs.Depths.{option_depth, expr_depth}
use Rattle.vs_grammar.specs.Spelled.{depth_limit}
use Rattle.vs_ast.specs.Views as view
use Rattle.vs_elaborated.specs.Environments.{Env}
use Rattle.vs_elaborated.specs.Ports.{Port, find_port}
use Rattle.vs_elaborated.specs.Instances.{directed, connected}
use Rattle.vs_items.specs.declared.connections.Connection.{Connection}

-- a connection of a port, where the instance stands in this
pub record IsFineConnected (env : Env) (c : Connection) : Type 0 where
  pub shaped : IsExpr (view.expr c.e.now)
  pub clean : (directed c.name.now (Some c.input) (view.expr c.e.now) env).faults ≡ []
  pub shallow : expr_depth (view.expr c.e.now) ≤ depth_limit

-- what stands for this port, if it is open or not
pub record IsFineValue (env : Env) (port : Option Port) (e : Option tree.Expr) : Type 0 where
  pub shaped : Given IsExpr e
  pub clean : (connected port e env).faults ≡ []
  pub shallow : option_depth expr_depth e ≤ depth_limit

-- by order, for the ports from the n-th on
abbrev pub AreFineOrdered : List Port → ℕ → Env → List (Option tree.Expr) → Type 0
AreFineOrdered ports n env [] = Unit {0}
AreFineOrdered ports n env (e ∷ es) = IsFineValue env (slice_get ports n) e × AreFineOrdered ports (suc n) env es

-- by name
abbrev pub IsFineNamed : List Port → Env → tree.NamedConnection → Type 0
IsFineNamed ports env c = IsFineValue env (find_port ports c.name.bytes) c.e
