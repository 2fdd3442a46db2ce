-- What the masks of the sleeping blocks tell of a lane at the end of a slot.
use Rattle.std.specs.Prelude.{List, ◌≡◌, ℕ, true, ◌⊎◌, Some}
use Rattle.vs_four.specs.declared.Bit4.{Bit4}
use Rattle.vs_four.specs.declared.Bit4.TheVariants.{Zero, One}
use Rattle.vs_net.specs.Network.{Sleeper, write_all, made}
use Rattle.vs_net.specs.Solution.{all_x}
use Rattle.vs_design.specs.Designs.{Design}
use Rattle.vs_design.specs.Sleepers.{sleeper_at}
use Rattle.vs_design.specs.Networks.{network_of}
use Rattle.vs_code.specs.Calls.{State}
use Rattle.vs_program.specs.Program.{values}
use Rattle.vs_program.specs.Layouts.{mask_of}

-- the block hasn't been woken: its mask is 0, what it waits on is x, and so are its bits
pub record IsUnwoken (d : Design) (clocks : List ℕ) (bits : ℕ) (level : Bit4) (p : ℕ) (sleeper : Sleeper) (slots : State) : Type 0 where
  pub mask_is : slots (mask_of d p) ≡ Zero
  pub on : all_x (values bits clocks level slots) sleeper.on ≡ true
  pub own : all_x (values bits clocks level slots) sleeper.bits ≡ true

-- the block has been woken: its mask is 1, and its bits have what its statement gives
pub record IsWoken (d : Design) (clocks : List ℕ) (bits : ℕ) (level : Bit4) (p : ℕ) (slots : State) : Type 0 where
  pub mask_is : slots (mask_of d p) ≡ One
  pub holds : write_all (values bits clocks level slots) (made ((network_of d clocks).process p) (values bits clocks level slots)) ≡ values bits clocks level slots

-- each sleeping block is the one or the other, where the clocks have this level
pub record HaveMasks (d : Design) (clocks : List ℕ) (bits : ℕ) (level : Bit4) (slots : State) : Type 0 where
  pub each : (p : ℕ) (sleeper : Sleeper) → sleeper_at d p ≡ Some sleeper → IsUnwoken d clocks bits level p sleeper slots ⊎ IsWoken d clocks bits level p slots
