use Rattle.std.proofs.Common.{◌<◌, ℕ, List, sym, ap, ◌∙◌, subst}
use Rattle.vs_design.specs.Footprints.{contains}
use Rattle.vs_flat.specs.DesignOf.{design_of}
use Rattle.vs_clock.specs.Roots.{root_among}
use Rattle.vs_clock.proofs.Finding.{reset_below}
use Rattle.vs_clock.proofs.nets.Nets.of.Goals as goal

pub roots_of-requires-clause-roots : goal.roots_of-requires-clause-roots
roots_of-requires-clause-roots c = λ b h. subst (λ n. b < n) (sym c.in_ok-targets.ensures.count) (reset_below (design_of c.args.flat.now) c.requires.lawful.design c.args.clocks.now b (sym (ap (λ (zs : List ℕ). contains zs b) (c.as_slice.ensures.value ∙ c.in_ok-inputs.ensures)) ∙ h))

pub clock_labels-requires-clause-within : goal.clock_labels-requires-clause-within
clock_labels-requires-clause-within c = c.in_ok-targets.ensures.within

pub roots_of-requires-clause-within : goal.roots_of-requires-clause-within
roots_of-requires-clause-within c = c.in_ok-targets.ensures.within

pub returns : goal.returns
returns c =
    let d = design_of c.args.flat.now in
    record {
      clock = c.in_ok-clock.ensures;
      roots = λ b. c.in_ok-roots.ensures.roots d c.in_ok-targets.ensures.targets b ∙ ap (λ (is : List ℕ). root_among d is b) (c.as_slice.ensures.value ∙ c.in_ok-inputs.ensures);
      inputs = c.in_ok-inputs.ensures;
    }
