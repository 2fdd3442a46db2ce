-- A program of a design gives the solution.
use Rattle.std.proofs.Common.{ℕ, Bool, true, false, List, [], ◌∷◌, subst}
use Rattle.vs_four.specs.declared.Bit4.{Bit4}
use Rattle.vs_four.specs.declared.Bit4.TheVariants.{Zero, One, X}
use Rattle.vs_net.specs.Network as N
use Rattle.vs_net.specs.Queue.{Fall, Rise, slots_of}
use Rattle.vs_net.specs.Solution.{beginning, IsSolution}
use Rattle.vs_design.specs.Designs.{Design}
use Rattle.vs_design.specs.Networks.{network_of}
use Rattle.vs_code.specs.Calls.{State}
use Rattle.vs_program.specs.Lowered.{HasConstants}
use Rattle.vs_program.specs.Masks.{HaveMasks}
use Rattle.vs_program.specs.Program.{Program, values, initial_slots}
use Rattle.vs_program.specs.Compiled.{IsProgramOf, IsEnd, IsReached, EndsAreReached}
use Rattle.vs_program.specs.Runs.{IsFall, AreRounds, values_after, RoundsSolve}

pub ends_are_reached : EndsAreReached
ends_are_reached d clocks p level before slot after end = record {
  constants = end.constants;
  masks = end.masks;
  settled = record { from = values p.bits clocks level before; each = end.ends.settled };
}

module _ (d : Design) (clocks : List ℕ) (p : Program) (is : IsProgramOf d clocks p) where
  -- what a round begins with: where there was a fall before, values with which a time slot can begin
  MayBegin : Bool → Bit4 → State → Type 0
  MayBegin true level slots = IsReached d clocks p level slots
  MayBegin false level slots = HasConstants slots × HaveMasks d clocks p.bits level slots

  fall_ends : (begun : Bool) (level : Bit4) (v : N.State) (before after : State) → MayBegin begun level before → IsFall begun p v before after → IsEnd d clocks p level before (Fall v) after
  unfolding MayBegin
  fall_ends true level v before after may fall = is.falls level v before fall.fallen after may fall.falls fall.settled
  fall_ends false level v before after may fall = is.first level v before fall.fallen after may.0 may.1 fall.falls fall.settled

  solve : (begun : Bool) (level : Bit4) (before : State) → MayBegin begun level before → (vs : List N.State) (ends : List State) → AreRounds begun p before vs ends
      → IsSolution (network_of d clocks) (values p.bits clocks level before) (slots_of vs) (values_after p clocks (slots_of vs) ends)
  unfolding MayBegin
  solve begun level before may [] [] rounds = tt
  solve begun level before may [] (low ∷ ends) rounds = absurd rounds
  solve begun level before may (v ∷ vs) [] rounds = absurd rounds
  solve begun level before may (v ∷ vs) (low ∷ []) rounds = absurd rounds
  solve begun level before may (v ∷ vs) (low ∷ high ∷ ends) rounds =
      let low_end = fall_ends begun level v before low may rounds.0 in
      let low_reached = ends_are_reached d clocks p level before (Fall v) low low_end in
      let high_end = is.rises Zero low rounds.1.stepped rounds.1.risen high low_reached rounds.1.steps rounds.1.rises rounds.1.settled in
      (low_end.ends, (high_end.ends, solve true One high (ends_are_reached d clocks p Zero low Rise high high_end) vs ends rounds.2))

  solves : (vs : List N.State) (ends : List State) → AreRounds false p (initial_slots p) vs ends
      → IsSolution (network_of d clocks) (beginning (network_of d clocks)) (slots_of vs) (values_after p clocks (slots_of vs) ends)
  unfolding MayBegin
  solves vs ends rounds = subst (λ (s : N.State). IsSolution (network_of d clocks) s (slots_of vs) (values_after p clocks (slots_of vs) ends)) is.starts
      (solve false X (initial_slots p) (is.constants, is.begins) vs ends rounds)

pub rounds_solve : RoundsSolve
rounds_solve d clocks p is vectors ends rounds = solves d clocks p is vectors ends rounds
