-- Worked lists of scopes, and ranges.
use Rattle.std.specs.Prelude.{◌≡◌, ℕ, true, false, [], ◌∷◌, Some, codes}
use Rattle.vs_design.specs.Designs.{Scope}
use Rattle.vs_design.specs.Elaborated.{are_scopes, is_lawful_range}
use Rattle.vs_design.specs.ExampleParts.{range_of, top_scope}

abbrev pub block_in : ℕ → Scope
block_in parent = record { name = codes "b"; parent = Some parent; instance = false }

pub record ElaboratedComputed : Type 0 where
  pub no_scope : are_scopes [] ≡ false
  pub no_top : are_scopes (block_in 0 ∷ []) ≡ false
  pub two_tops : are_scopes (top_scope ∷ top_scope ∷ []) ≡ false
  pub top_alone : are_scopes (top_scope ∷ []) ≡ true
  -- two blocks within a block, and one beside it
  pub nested : are_scopes (top_scope ∷ block_in 0 ∷ block_in 1 ∷ block_in 1 ∷ block_in 0 ∷ []) ≡ true
  -- a block within the first of two comes before the second
  pub too_late : are_scopes (top_scope ∷ block_in 0 ∷ block_in 0 ∷ block_in 1 ∷ []) ≡ false
  pub within_itself : are_scopes (top_scope ∷ block_in 1 ∷ []) ≡ false
  -- bounds up to 65,535, and 64 bits
  pub greatest_bound : is_lawful_range (Some (range_of 65535 65472)) ≡ true
  pub bound_beyond : is_lawful_range (Some (range_of 65536 65536)) ≡ false
  pub ascending_range : is_lawful_range (Some (range_of 0 63)) ≡ true
  pub too_long : is_lawful_range (Some (range_of 64 0)) ≡ false
