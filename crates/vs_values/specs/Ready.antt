-- What a call of the lowering of an expression needs.
use Rattle.std.specs.Prelude.{◌≡◌, ℕ, ◌+◌, ◌<◌, ◌≤◌, ◌^◌, true, List, length}
use Rattle.vs_design.specs.Expressions.{Expression, width}
use Rattle.vs_design.specs.Fits.{is_fit}
use Rattle.vs_design.specs.Within.{names_within}
use Rattle.vs_design.specs.Sizes.{weight}
use Rattle.vs_code.specs.Calls.{length_of}
use Rattle.vs_values.specs.Added.{IsEnv}
use Rattle.vs_values.specs.Coded.{Coding}

-- the slots of the bits that it names are known, the expression fits into its context, it weighs no more than a design may, and there is room for its slots and its calls
pub record IsReady (env : List ℕ) (code : Coding) (e : Expression) (w : ℕ) : Type 0 where
  pub is_env : IsEnv env code.next
  pub has_bits : names_within (length env) e ≡ true
  pub fit : is_fit e ≡ true
  pub wide : width e ≤ w
  pub at_most_64 : w ≤ 64
  pub light : weight e w ≤ 16777216
  pub slots : code.next + weight e w < 2 ^ 32
  pub few : length_of code.calls + weight e w ≤ 2 ^ 32
