use Rattle.std.proofs.Common.{◌∙◌, length, subst, sym, ap}
use Rattle.vs_flat.specs.Arena.{Arena}
use Rattle.vs_flat.specs.DesignOf.{design_of}
use Rattle.vs_compile.specs.Known.{AreFacts}
use Rattle.vs_compile.specs.Resets.{AreSet}
use Rattle.vs_compile.proofs.facts.Facts.of.Goals as goal

pub invariant_of-result : goal.invariant_of-result
invariant_of-result c =
    let same = c.in_ok-templates.ensures.same in
    record {
      whole = c.in_ok-templates.ensures.whole ∙ ap (λ (a : Arena). length a.bodies) (sym same);
      facts = subst (λ (a : Arena). AreFacts a c.args.footprints.now c.args.clocks.now) (sym same) c.requires;
      set = subst (λ (a : Arena). AreSet (design_of a) c.args.clocks.now.bits (length (design_of a).processes) c.in_ok-reset_bits.reset_bits) (sym same) c.in_ok-reset_bits.ensures;
    }
