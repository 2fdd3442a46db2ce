use Rattle.std.proofs.Common.{List, ◌≡◌, ℕ, ◌<◌, ◌≤◌, ◌∙◌, true, sym, subst, ap, length, arith}
use Rattle.std.proofs.lemmas.Grind.{common_steps}
use Rattle.std.specs.List.{count_by}
use Rattle.vs_net.specs.Queue.{Fall}
use Rattle.vs_net.specs.Solution.{IsSlotEnd}
use Rattle.vs_design.specs.Designs.{Design}
use Rattle.vs_design.specs.Networks.{network_of}
use Rattle.vs_program.specs.Compiled.{IsProgramOf}
use Rattle.vs_engine.specs.Lanes.{state}
use Rattle.vs_feed.specs.Lanes.{lane_at}
use Rattle.vs_rounds.specs.Drives.{vector_state}
use Rattle.vs_rounds.specs.Lanes.{Driving}
use Rattle.vs_rounds.proofs.Settled.{live_count, not_live, falls_with}
use Rattle.vs_rounds.proofs.driven.Driven.fall.Goals as goal

pub returns-then-vectors-eq0-clause-falls : goal.returns-then-vectors-eq0-clause-falls
returns-then-vectors-eq0-clause-falls g c =
    let none : 0 ≡ count_by (λ s. s.live) c.self.inside.drive = sym c.if-vectors-eq0.true ∙ c.count_live-vectors.ensures ∙ ap (count_by (λ x. x)) c.live.ensures ∙ live_count c.self.inside.drive in
    λ d clocks i is_program within live. not_live c.args.self.now.stimuli i (none ∙ ap (λ (s : Driving _). count_by (λ k. k.live) s.stimuli) c.self.view_is) live

pub returns-clause-falls : goal.returns-clause-falls
returns-clause-falls g c =
    let same : c.deref.result.now ≡ c.feed.new.pairs = grind (arith, common_steps) in
    subst (λ (s : Driving _). (d : Design) (clocks : List ℕ) (i : ℕ) → IsProgramOf d clocks s.engine.program → i < length s.stimuli → (lane_at s.stimuli i).live ≡ true
    → IsSlotEnd (network_of d clocks) (state g.W.Word.lane s.engine i) (Fall (vector_state d clocks (lane_at s.stimuli i).vector)) (state g.W.Word.lane c.fall.new.self i)) c.self.view_is
    (λ d clocks i is_program within live.
    let few = subst (λ (s : Driving _). length s.stimuli ≤ g.W.Word.LANES) (sym c.self.view_is) c.requires.lanes in
    let in_lanes : i < g.W.Word.LANES = omega (arith, few, within) in
    falls_with g.W.Word.lane d clocks i _ (lane_at c.self.inside.drive i) c.self.inside.engine c.fall.new.self c.deref.result.now c.feed.new.pairs is_program same (c.feed.ensures i in_lanes) live
    (c.fall.ensures.ends d clocks i is_program in_lanes))
