use Rattle.std.proofs.Common.{◌≡◌, ◌<◌, true, length, sym, ap, ◌∙◌, subst}
use Rattle.std.proofs.lemmas.Option.{slice_get_within}
use Rattle.vs_design.specs.Designs.{bit_count}
use Rattle.vs_design.specs.Footprints.{ascending, contains}
use Rattle.vs_design.specs.Sizes.{register_bits}
use Rattle.vs_cone.specs.Given.{fall_bits}
use Rattle.vs_cone.specs.Lists.{HasEachOnce}
use Rattle.vs_cone.specs.Sources.{SourcesAre}
use Rattle.vs_assemble.specs.Flags.{HasBitsOf}
use Rattle.vs_assemble.proofs.Lists.{all_from}
use Rattle.vs_assemble.proofs.planning.make_plan.Goals as goal

pub but_ports-requires-clause-order : goal.but_ports-requires-clause-order
but_ports-requires-clause-order g c =
    let d = g.T.Processes.design c.args.lowering.now in
    all_from (λ p. p < length d.processes) c.args.order.now
    (λ q h. let r = ((c.cycle_law.ensures.order d c.args.order.now c.requires.order).members q).0 h in slice_get_within d.processes q r.0 r.1)

pub falling-requires-clause-below : goal.falling-requires-clause-below
falling-requires-clause-below g c =
    let d = g.T.Processes.design c.args.lowering.now in
    let at = c.requires.accepted in
    let sources : SourcesAre d c.args.clocks.now = subst (SourcesAre d) at.clocks_are (c.sources_law.ensures d at.names at.accepted) in
    all_from (λ b. b < c.args.bits) c.args.inputs.now
    (λ b h. subst (λ n. b < n) (sym c.requires.bits) (sources.data_below b (subst (λ bs. contains bs b ≡ true) c.requires.inputs h)))

pub returns : goal.returns
returns g c =
    let d = g.T.Processes.design c.args.lowering.now in
    let at = c.requires.accepted in
    let sources : SourcesAre d c.args.clocks.now = subst (SourcesAre d) at.clocks_are (c.sources_law.ensures d at.names at.accepted) in
    let items : c.in_ok-registers.registers.items ≡ ascending (bit_count d) (register_bits d.processes) =
    c.in_ok-registers.ensures ∙ ap (λ n. ascending n (register_bits d.processes)) c.requires.bits in
    let each : HasEachOnce (register_bits d.processes) c.in_ok-registers.registers.items =
    subst (HasEachOnce (register_bits d.processes)) (sym items) (c.list_law.ensures.ascending (bit_count d) (register_bits d.processes) sources.registers_below) in
    record {
      settling_are = c.in_ok-settling.ensures;
      blocks_are = c.in_ok-blocks.ensures;
      registers_are = each;
      registers_below = all_from (λ b. b < bit_count d) c.in_ok-registers.registers.items (λ b h. sources.registers_below b (sym (each.has b) ∙ h));
      falling_are = subst (λ n. HasBitsOf n c.in_ok-falling.falling.items (fall_bits d c.args.clocks.now)) c.requires.bits c.in_ok-falling.ensures;
    }
