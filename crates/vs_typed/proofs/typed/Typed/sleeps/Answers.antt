use Rattle.std.proofs.Common.{map, ap, ◌∙◌}
use Rattle.vs_design.specs.Sleepers.{is_sleeping}
use Rattle.vs_flat.specs.Arena.{Arena}
use Rattle.vs_flat.specs.DesignOf.{design_of}
use Rattle.vs_typed.proofs.Flags.{flag_is}
use Rattle.vs_typed.proofs.typed.Typed.sleeps.Goals as goal

pub returns : goal.returns
returns c = λ x h.
    flag_is (is_sleeping (design_of c.args.self.now)) (design_of c.args.self.now).processes c.self.inside.sleeping.items c.args.p x c.index.result.now c.index.result.now
    (c.self.invariant.sleeping_is ∙ ap (λ (a : Arena). map (is_sleeping (design_of a)) (design_of a).processes) c.self.view_is) c.index.ensures h
