-- Named blocks around a statement, and the integer of a scope that a name means (IEEE 1364-2005, 9.6 and 9.8.2).
use Rattle.std.specs.Prelude.{◌≡◌, ◌||◌, ℕ, Bool, false, List, [], ◌∷◌, Option, Some, None, is_some}
use Rattle.vs_elaborated.specs.Statements.{Local, find_local}
use Rattle.vs_elaborated.specs.Heads as spec
use Rattle.vs_bodies.specs.declared.layers.Layers.{Layers, End, Turn', Block'}
use Rattle.vs_maps.specs.Maps.{value_at}
use Rattle.vs_maps.specs.MapViews.{pairs}
use Rattle.vs_items.specs.declared.loops.Integer.{Integer}
use Rattle.vs_items.specs.Loops.{integer_of}

-- whether a named block around declares this name
abbrev pub declares : Layers → List ℕ → Bool
declares End name = false
declares (Turn' p outer integer bits) name = declares outer name
declares (Block' p outer locals) name = is_some (value_at name (pairs locals.now)) || declares outer name

-- these are declared by the named blocks around
pub record AreAround (layers : Layers) (locals : List Local) : Type 0 where
  pub each : (name : List ℕ) → declares layers name ≡ is_some (find_local locals name)

-- the integer that a loop names, if it is one of a scope
abbrev pub heads_with : Option Integer → (at : ℕ) → List spec.Head
heads_with None at = []
heads_with (Some i) at = record { integer = integer_of i; at = at } ∷ []
