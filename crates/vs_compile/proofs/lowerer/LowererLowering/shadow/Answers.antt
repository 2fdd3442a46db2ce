use Rattle.std.proofs.Common.{◌≡◌, ◌<◌, true, subst, sym, ap, ◌∙◌, length, arith, rules}
use Rattle.std.specs.Prelude.{slice_index}
use Rattle.std.proofs.lemmas.Grind.{get_or_default_zero}
use Rattle.vs_design.specs.Designs.{bit_count}
use Rattle.vs_design.specs.Footprints.{contains}
use Rattle.vs_design.specs.Sizes.{register_bits}
use Rattle.vs_flat.specs.DesignOf.{design_of}
use Rattle.vs_compile.specs.Known.{Known}
use Rattle.vs_compile.specs.Laid.{Laid}
use Rattle.vs_compile.proofs.Laying.{registers_below}
use Rattle.vs_compile.proofs.lowerer.LowererLowering.shadow.Goals as goal

pub index-requires : goal.index-requires
index-requires c =
    let k = c.self.inside.facts in
    let here : contains (register_bits (design_of k.arena).processes) c.args.bit ≡ true =
    subst (λ (z : Known). contains (register_bits (design_of z.arena).processes) c.args.bit ≡ true) (sym (ap (λ (l : Laid). l.known) c.self.view_is)) c.requires in
    let low : c.args.bit < bit_count (design_of k.arena) = registers_below c.sources_law.ensures (design_of k.arena) k.clocks c.typed-typed.ensures.accepted c.args.bit here in
    let within : c.args.bit < length c.self.inside.shadows.items = omega (arith, low, c.self.invariant.count_is, c.self.invariant.long) in
    search rules

pub returns : goal.returns
returns c =
    let k = c.self.inside.facts in
    let here : contains (register_bits (design_of k.arena).processes) c.args.bit ≡ true =
    subst (λ (z : Known). contains (register_bits (design_of z.arena).processes) c.args.bit ≡ true) (sym (ap (λ (l : Laid). l.known) c.self.view_is)) c.requires in
    let low : c.args.bit < bit_count (design_of k.arena) = registers_below c.sources_law.ensures (design_of k.arena) k.clocks c.typed-typed.ensures.accepted c.args.bit here in
    let within : c.args.bit < length c.self.inside.shadows.items = omega (arith, low, c.self.invariant.count_is, c.self.invariant.long) in
    c.index.ensures ∙ get_or_default_zero c.self.inside.shadows.items c.args.bit c.index.result.now within ∙ ap (λ (l : Laid). slice_index l.shadows c.args.bit) c.self.view_is
