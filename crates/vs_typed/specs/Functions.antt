-- What is found of functions, each in the order of their numbers (IEEE 1364-2005, 10.4).
use Rattle.std.specs.Prelude.{◌≡◌, ℕ, Bool, true, false, List, length, Option, Some, None, slice_get}
use Rattle.vs_design.specs.Statements.{Function}
use Rattle.vs_flat.specs.Arena.{Arena}
use Rattle.vs_typed.specs.declared.functions.Places.{Places}
use Rattle.vs_typed.specs.declared.places.Rule.TheVariants.{Wide, Division}
use Rattle.vs_typed.specs.Places.{AreLeast}
use Rattle.vs_typed.specs.Weights.{IsWeight}

-- the least places in the statement of each function, by rule
pub record ArePlaces (a : Arena) (p : Places) : Type 0 where
  pub wide : AreLeast a Wide p.wide.items
  pub all_wide : length p.wide.items ≡ length a.bodies
  pub division : AreLeast a Division p.division.items
  pub all_division : length p.division.items ≡ length a.bodies

-- neither is there
abbrev pub are_none : Option ℕ → Option ℕ → Bool
are_none None None = true
are_none _ _ = false

-- the weight of each function that fits
abbrev pub HaveWeights : List Function → List (Option ℕ) → Type 0
HaveWeights fs weights = (f : ℕ) (x : Function) (w : Option ℕ) → slice_get fs f ≡ Some x → slice_get weights f ≡ Some w → IsWeight x.statement w
