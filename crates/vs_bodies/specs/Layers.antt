-- What names mean within the loops and the named blocks around a statement.
use Rattle.std.specs.Prelude.{◌≡◌, ℕ, List, Option, Some, None}
use Rattle.vs_ast.specs.Views as view
use Rattle.vs_const.specs.Meanings.{FunctionMeaning, Meaning, AFunction, Find, turning}
use Rattle.vs_elaborated.specs.Statements as statements
use Rattle.vs_maps.specs.Maps.{value_at}
use Rattle.vs_maps.specs.MapViews.{pairs}
use Rattle.vs_maps.specs.declared.maps.NameMap.{NameMap}
use Rattle.vs_bodies.specs.declared.layers.Local.{Local}
use Rattle.vs_bodies.specs.declared.layers.Layers.{Layers, End, Turn', Block'}

-- a meaning that is none of a function
abbrev pub IsNoFunction : Meaning → Type 0
IsNoFunction m = (f : FunctionMeaning) → m ≡ AFunction f → ⊥

abbrev pub meaning_or : (declared : ℕ → Meaning) → Option Local → Meaning → Meaning
meaning_or declared None m = m
meaning_or declared (Some l) m = declared l.place

-- the innermost first
abbrev pub within : (declared : ℕ → Meaning) → Layers → Find → Find
within declared End find = find
within declared (Turn' p outer integer bits) find = turning (within declared outer find) integer.now.text bits
within declared (Block' p outer locals) find = λ name. meaning_or declared (value_at name (pairs locals.now)) (within declared outer find name)

-- what is kept of a variable or an integer of a named block
abbrev pub local_of : statements.Local → Local
local_of v = record { place = v.name.place }

-- a map of these variables: of two of one name the first
pub record AreLocals (m : NameMap Local) (vs : List statements.Local) : Type 0 where
  pub each : (name : List ℕ) → value_at name (pairs m) ≡ view.option local_of (statements.find_local vs name)
