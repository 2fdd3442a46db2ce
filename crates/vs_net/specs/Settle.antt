-- The solution, computed: one pass over a level order in each slot, as a compiled simulator takes it.
use Rattle.std.specs.Prelude.{◌≡◌, ℕ, true, false, List, [], ◌∷◌}
use Rattle.vs_net.specs.Network.{State, Write, write_all, Network, Kind, AnAssign, AComb, kind, writes}
use Rattle.vs_net.specs.Queue.{Slot}
use Rattle.vs_net.specs.Solution.{driven, given, IsWriter}

-- what an assign or a combinational block writes
abbrev pub settled_by : Kind → List Write → List Write
settled_by AnAssign ws = ws
settled_by AComb ws = ws
settled_by _ ws = []

-- each process of the order in turn, on what those before it left; before are the values at the end of the slot before
abbrev pub settle : Network → State → List ℕ → State → State
settle n before [] s = s
settle n before (p ∷ order) s = settle n before order (write_all s (settled_by (kind (n.process p)) (given n before p s)))

-- s has the slot's inputs and registers, and keeps what nothing writes
pub record IsFed (n : Network) (before : State) (slot : Slot) (s : State) : Type 0 where
  pub updated : (p b : ℕ) → IsWriter (kind (n.process p)) → writes (n.process p) b ≡ true → s b ≡ driven (n.process p) slot before b
  pub kept : (b : ℕ) → ((p : ℕ) → writes (n.process p) b ≡ false) → s b ≡ before b
