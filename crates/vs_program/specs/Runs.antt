-- What a program does over all time slots, and that it is the one solution.
use Rattle.std.specs.Prelude.{ℕ, Bool, true, false, List, [], ◌∷◌, if◌then◌else◌}
use Rattle.vs_net.specs.Network as N
use Rattle.vs_net.specs.Queue.{Slot, slots_of}
use Rattle.vs_net.specs.Solution.{beginning, IsSolution}
use Rattle.vs_design.specs.Designs.{Design}
use Rattle.vs_design.specs.SlotValues.{clock_value}
use Rattle.vs_design.specs.Networks.{network_of}
use Rattle.vs_code.specs.Calls.{Call, State, AreCalled}
use Rattle.vs_program.specs.Program.{Program, values, initial_slots}
use Rattle.vs_program.specs.Compiled.{IsProgramOf, Falls, Rises}

-- the calls of the next fall, where there was one before or none yet
abbrev pub fall_calls : Bool → Program → List Call
fall_calls begun p = if begun then p.fall else p.first

-- the clocks fall with this vector, and the slots are then these
pub record IsFall (begun : Bool) (p : Program) (vector : N.State) (before after : State) : Type 0 where
  pub fallen : State
  pub falls : Falls p vector before fallen
  pub settled : AreCalled (fall_calls begun p) fallen after

-- the clocks rise, and the slots are then these
pub record IsRise (p : Program) (before after : State) : Type 0 where
  pub stepped : State
  pub steps : AreCalled p.next before stepped
  pub risen : State
  pub rises : Rises p stepped risen
  pub settled : AreCalled p.rise risen after

-- for each vector a fall and a rise, and the slots of a lane after each of them
abbrev pub AreRounds : Bool → Program → State → List N.State → List State → Type 0
AreRounds begun p before [] [] = Unit {0}
AreRounds begun p before (v ∷ vs) (low ∷ high ∷ ends) = IsFall begun p v before low × IsRise p low high × AreRounds true p high vs ends
AreRounds begun p before _ _ = ⊥

-- the values that the slots of a lane hold after each time slot, with the level that the clocks have then
abbrev pub values_after : Program → List ℕ → List Slot → List State → List N.State
values_after p clocks (slot ∷ slots) (after ∷ ends) = values p.bits clocks (clock_value slot) after ∷ values_after p clocks slots ends
values_after p clocks _ _ = []

-- from the slots at the beginning a program of a design gives the solution, on whatever vectors
abbrev pub RoundsSolve : Type 0
RoundsSolve =
    (d : Design) (clocks : List ℕ) (p : Program) → IsProgramOf d clocks p → (vectors : List N.State) (ends : List State)
    → AreRounds false p (initial_slots p) vectors ends
    → IsSolution (network_of d clocks) (beginning (network_of d clocks)) (slots_of vectors) (values_after p clocks (slots_of vectors) ends)
