use Rattle.std.proofs.Common.{List, ℕ, ◌<◌, subst}
use Rattle.vs_net.specs.Queue.{Rise}
use Rattle.vs_net.specs.Solution.{IsSlotEnd}
use Rattle.vs_design.specs.Designs.{Design}
use Rattle.vs_design.specs.Networks.{network_of}
use Rattle.vs_program.specs.Compiled.{IsProgramOf}
use Rattle.vs_engine.specs.Lanes.{state}
use Rattle.vs_rounds.specs.Lanes.{Driving}
use Rattle.vs_rounds.proofs.driven.Driven.rise.Goals as goal

pub returns-clause-rises : goal.returns-clause-rises
returns-clause-rises g c =
    subst (λ (s : Driving _). (d : Design) (clocks : List ℕ) (i : ℕ) → IsProgramOf d clocks s.engine.program → i < g.W.Word.LANES
    → IsSlotEnd (network_of d clocks) (state g.W.Word.lane s.engine i) Rise (state g.W.Word.lane c.rise.new.self i)) c.self.view_is c.rise.ensures.ends
