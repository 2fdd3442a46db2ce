-- A bit's value after writes.
use Rattle.std.specs.Prelude.{◌≡◌, ℕ, true, false, List}
use Rattle.vs_net.specs.Network.{State, Write, write_all, is_written}

-- it depends on the bit's value before alone; where one of them writes the bit, on the writes alone; and where none does, it is the value before
pub record WritesAre : Type 0 where
  pub at : (ws : List Write) (s t : State) (b : ℕ) → s b ≡ t b → write_all s ws b ≡ write_all t ws b
  pub covered : (ws : List Write) (s t : State) (b : ℕ) → is_written ws b ≡ true → write_all s ws b ≡ write_all t ws b
  pub other : (ws : List Write) (s : State) (b : ℕ) → is_written ws b ≡ false → write_all s ws b ≡ s b
