-- What a table of shapes keeps.
use Rattle.std.specs.Prelude.{◌≡◌, ℕ, List, Some, slice_get}
use Rattle.vs_flat.specs.Arena.{Arena}
use Rattle.vs_flat.specs.Lawful.{IsLawful}
use Rattle.vs_shape.specs.declared.shape.Shape.{Shape}
use Rattle.vs_shape.specs.Shapes.{shape_of}
use Rattle.vs_shape.specs.Nodes.{tree_of}

-- the shapes of expressions, as far as they are noted
pub record IsTable (a : Arena) (shapes : List Shape) : Type 0 where
  pub lawful : IsLawful a
  pub each : (e : ℕ) (shape : Shape) → slice_get shapes e ≡ Some shape → shape ≡ shape_of (tree_of a e)
