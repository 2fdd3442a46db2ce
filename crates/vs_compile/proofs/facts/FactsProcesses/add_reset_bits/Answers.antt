use Rattle.std.proofs.Common.{◌<◌, length, subst, sym, arith}
use Rattle.vs_flat.specs.DesignOf.{design_of}
use Rattle.vs_compile.specs.Known.{Known}
use Rattle.vs_compile.proofs.Setting.{set_known}
use Rattle.vs_compile.proofs.facts.FactsProcesses.add_reset_bits.Goals as goal

pub of-requires : goal.of-requires
of-requires c =
    let low = subst (λ (z : Known). c.args.process < length (design_of z.arena).processes) (sym c.self.view_is) c.requires.process in
    omega (arith, low, c.self.invariant.set.count)

pub returns : goal.returns
returns c = (
  c.of.result.now,
  c.in_ok-extend_from_slice.ensures.items,
  set_known c.self.inside.templates c.self.inside.footprints.now c.self.inside.clocks.now c.self.inside.reset_bits c.args.self.now c.self.view_is c.self.invariant c.args.process c.requires.process
      c.args._clocks.now c.requires.clocks c.of.result.now c.of.ensures,
)
