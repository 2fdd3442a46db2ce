use Rattle.std.proofs.Common.{sym, subst, ap, List}
use Rattle.vs_stim.specs.Known.{Known}
use Rattle.vs_misses.specs.Watch.{HasColumns, named}
use Rattle.vs_rounds.specs.Lanes.{Driving}
use Rattle.vs_rounds.specs.Checked.{Checking}
use Rattle.vs_rounds.proofs.Checks.{parts_checkable}
use Rattle.vs_rounds.proofs.checker.Checker.new.Goals as goal

pub returns-clause-ready : goal.returns-clause-ready
returns-clause-ready g c =
    let driven = c.in_ok-driven.driven in
    let misses = c.in_ok-misses.misses in
    let m : Checking _ = record { stimuli = driven.stimuli; engine = driven.engine; misses = misses } in
    let stimuli_are = ap (λ (d : Driving _). d.stimuli) c.in_ok-driven.ensures in
    let engine_is = ap (λ (d : Driving _). d.engine) c.in_ok-driven.ensures in
    λ d clocks h.
    parts_checkable m d clocks c.args.drive c.args.engine c.args.outputs.items stimuli_are engine_is c.in_ok-misses.ensures.outputs
    (subst (λ (ks : List Known). HasColumns misses (named ks)) (sym stimuli_are) c.in_ok-misses.ensures.columns) c.requires.fit h
