use Rattle.std.proofs.Common.{List, All, length, sym, subst, ap, ◌∙◌}
use Rattle.vs_flat.specs.Arena.{Arena}
use Rattle.vs_flat.specs.DesignOf.{design_of}
use Rattle.vs_flat.specs.Lawful.{IsLawful}
use Rattle.vs_waves.specs.Wave.{Wave, IsNewWave}
use Rattle.vs_rounds.specs.Lanes.{Simulation}
use Rattle.vs_setup.proofs.setup.assemble.Goals as goal

pub new-requires : goal.new-requires
new-requires g c = subst IsLawful (sym c.flat.ensures.same) c.flat.ensures.lawful

pub returns-clause-stimuli : goal.returns-clause-stimuli
returns-clause-stimuli g c = ap (λ (m : Simulation g.row.W.Denot). m.stimuli) c.in_ok-machine.ensures.parts

pub returns-clause-engine : goal.returns-clause-engine
returns-clause-engine g c = ap (λ (m : Simulation g.row.W.Denot). m.engine) c.in_ok-machine.ensures.parts

pub returns-clause-lanes : goal.returns-clause-lanes
returns-clause-lanes g c = ap (λ (m : Simulation g.row.W.Denot). length m.waves) c.in_ok-machine.ensures.parts ∙ c.in_ok-waves.ensures.lanes ∙ c.lanes.ensures.count

pub returns-clause-waves : goal.returns-clause-waves
returns-clause-waves g c =
    subst (λ (ws : List Wave). All (IsNewWave c.args.job.now.share (design_of c.args.opened.accepted.flat) c.args.job.now.half) ws) (sym (ap (λ (m : Simulation g.row.W.Denot). m.waves) c.in_ok-machine.ensures.parts))
    (subst (λ (f : Arena). All (IsNewWave c.args.job.now.share (design_of f) c.args.job.now.half) c.in_ok-waves.waves) (c.flat.ensures.same ∙ c.typed-typed.ensures) c.in_ok-waves.ensures.each)

pub returns-clause-size : goal.returns-clause-size
returns-clause-size g c = c.size-size.ensures

pub returns-clause-paths : goal.returns-clause-paths
returns-clause-paths g c = c.in_ok-wave_paths.ensures
