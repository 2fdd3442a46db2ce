-- What a typed design knows of its flat one.
use Rattle.std.specs.Prelude.{◌≡◌, ℕ, Bool, List, length, map, Option, None}
use Rattle.vs_design.specs.Refusals.{width_refusal}
use Rattle.vs_design.specs.Sizes.{size}
use Rattle.vs_design.specs.Sleepers.{is_sleeping}
use Rattle.vs_flat.specs.Arena.{Arena}
use Rattle.vs_flat.specs.DesignOf.{design_of}
use Rattle.vs_typed.specs.Functions.{HaveWeights}

-- no length or division in it is refused; this is its size, these are for each process whether it sleeps, and these the weights of its functions
pub record IsTyped (a : Arena) (stores : ℕ) (sleeping : List Bool) (weights : List (Option ℕ)) : Type 0 where
  pub unrefused : width_refusal (design_of a) ≡ None
  pub size_is : stores ≡ size (design_of a)
  pub sleeping_is : sleeping ≡ map (is_sleeping (design_of a)) (design_of a).processes
  pub all_weighed : length weights ≡ length a.bodies
  pub weights_are : HaveWeights (design_of a).functions weights
