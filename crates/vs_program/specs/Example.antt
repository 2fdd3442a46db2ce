-- Worked layouts: the slots of designs with registers and a sleeping block.
use Rattle.std.specs.Prelude.{◌≡◌, [], ◌∷◌}
use Rattle.vs_design.specs.ExampleDesigns.{chain, sleeper, resettable}
use Rattle.vs_program.specs.Layouts.{sleepers, mask_of, layout_of, widest, slots_of_design}

pub record LayoutsComputed : Type 0 where
  -- slots 0 to 3 the constants, 4 to 8 the five bits, and two temporaries for an assign of weight 2
  pub chain_first : (layout_of chain []).first_temp ≡ 9
  pub chain_slots : slots_of_design chain ≡ 11
  -- bits 0 to 3 in slots 4 to 7, the register's next value in slot 8
  pub reset_shadow : (layout_of resettable (3 ∷ [])).shadow 3 ≡ 8
  pub reset_first : (layout_of resettable (3 ∷ [])).first_temp ≡ 9
  pub reset_widest : widest resettable ≡ 4
  pub reset_slots : slots_of_design resettable ≡ 13
  -- five bits in slots 4 to 8, the register's next value in slot 9, the mask of block 1 in slot 10
  pub asleep : sleepers sleeper ≡ 1 ∷ []
  pub sleeper_shadow : (layout_of sleeper (3 ∷ [])).shadow 3 ≡ 9
  pub sleeper_mask : mask_of sleeper 1 ≡ 10
  pub sleeper_first : (layout_of sleeper (3 ∷ [])).first_temp ≡ 11
  pub sleeper_slots : slots_of_design sleeper ≡ 14
