use Rattle.std.proofs.Common.{◌≡◌, ◌<◌, ℕ, List, Bool, sym, ap, ◌∙◌, subst}
use Rattle.vs_design.specs.Dead.{undriven_nets}
use Rattle.vs_design.specs.Footprints.{contains}
use Rattle.vs_design.specs.Rules.{written_bits}
use Rattle.vs_flat.specs.DesignOf.{design_of}
use Rattle.vs_clock.specs.Dead.{IsMarkedBy}
use Rattle.vs_clock.proofs.Marking.{undriven_are, undriven_below, dead_labelled}
use Rattle.vs_clock.proofs.dead.dead_labels.Goals as goal

pub roots_of-requires-clause-within : goal.roots_of-requires-clause-within
roots_of-requires-clause-within c = c.in_ok-targets.ensures.within

pub roots_of-requires-clause-roots : goal.roots_of-requires-clause-roots
roots_of-requires-clause-roots c = λ b h.
    let d = design_of c.args.flat.now in
    let marked = subst (λ (ms : List Bool). IsMarkedBy ms (written_bits d.processes)) (sym c.as_slice.ensures.value) c.in_ok-marks.ensures in
    let is : c.as_slice-2.result.now ≡ undriven_nets d = c.as_slice-2.ensures.value ∙ c.in_ok-undriven.ensures ∙ undriven_are c.as_slice.result.now (written_bits d.processes) marked d.signals in
    subst (λ n. b < n) (sym c.in_ok-targets.ensures.count) (undriven_below d c.requires.lawful.design b (ap (λ (bs : List ℕ). contains bs b) (sym is) ∙ h))

pub returns : goal.returns
returns c =
    let d = design_of c.args.flat.now in
    let marked = subst (λ (ms : List Bool). IsMarkedBy ms (written_bits d.processes)) (sym c.as_slice.ensures.value) c.in_ok-marks.ensures in
    let is : c.as_slice-2.result.now ≡ undriven_nets d = c.as_slice-2.ensures.value ∙ c.in_ok-undriven.ensures ∙ undriven_are c.as_slice.result.now (written_bits d.processes) marked d.signals in
    dead_labelled c.clocks_law.ensures d c.as_slice-2.result.now c.in_ok-targets.targets is c.in_ok-targets.ensures.targets c.roots_of.result c.roots_of.ensures.roots
