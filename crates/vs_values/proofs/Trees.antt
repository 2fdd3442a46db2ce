-- The expressions of a flat design.
use Rattle.std.proofs.Common.{◌≡◌, ℕ, Bool, List, length, ap, ◌∙◌, subst}
use Rattle.vs_design.specs.Expressions as E
use Rattle.vs_flat.specs.declared.expressions.Node.{Node}
use Rattle.vs_flat.specs.Arena.{Arena}
use Rattle.vs_flat.specs.Trees.{tree_at}
use Rattle.vs_flat.specs.DesignOf.{arena_trees}
use Rattle.vs_shape.specs.Nodes.{HasNames, place_of, tree_of, tree_of_node}
use Rattle.vs_code.specs.Calls.{Call}
use Rattle.vs_values.specs.Coded.{Coding}
use Rattle.vs_values.specs.Ready.{IsReady}
use Rattle.vs_values.specs.Valued.{AddsValue}
use Rattle.vs_values.proofs.Values.{at_is}

-- the tree of an expression, whose parts come before it
pub record Tree (a : Arena) (e : ℕ) (item : Node) : Type 0 where
  pub place : ℕ
  pub is : tree_at (arena_trees a) e ≡ E.At place (tree_of_node a item)
  pub names : HasNames (length a.signals) e item

pub tree : (a : Arena) (e : ℕ) (n item : Node) → tree_of a e ≡ E.At (place_of a e) (tree_of_node a n) → HasNames (length a.signals) e n → n ≡ item → Tree a e item
tree a e n item is names h = record {
  place = place_of a e;
  is = is ∙ ap (λ (x : Node). E.At (place_of a e) (tree_of_node a x)) h;
  names = subst (HasNames (length a.signals) e) h names;
}

-- a place in the text changes nothing
pub ready_strip : (env : List ℕ) (code : Coding) (place : ℕ) (e : E.Expression) (w : ℕ) → IsReady env code (E.At place e) w → IsReady env code e w
ready_strip env code place e w r = record { is_env = r.is_env; has_bits = r.has_bits; fit = r.fit; wide = r.wide; at_most_64 = r.at_most_64; light = r.light; slots = r.slots; few = r.few }

pub adds_placed : (env : List ℕ) (old : List Call) (mark : ℕ) (new : List Call) (next place : ℕ) (e : E.Expression) (w : ℕ) (s : Bool) (to : List ℕ) → AddsValue env old mark new next e w s to → AddsValue env old mark new next (E.At place e) w s to
adds_placed env old mark new next place e w s to v = record { calls = v.calls; is = v.is; value = at_is env mark place e w s v.calls to next v.value }
