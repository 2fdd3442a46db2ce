use Rattle.std.proofs.Common.{◌≡◌, ◌++◌, ℕ, List, subst, ap, slice_get}
use Rattle.std.specs.Prelude.{OnOk}
use Rattle.vs_design.specs.Designs.{bit_count}
use Rattle.vs_flat.specs.DesignOf.{design_of}
use Rattle.vs_assemble.specs.Flags.{HasBitsOf}
use Rattle.vs_assemble.specs.Plans.{reset_bits_or}
use Rattle.vs_compile.specs.Known.{Known}
use Rattle.vs_compile.specs.Laid.{Laid}
use Rattle.vs_compile.proofs.lowerer.LowererProcesses.add_reset_bits.Goals as goal

pub returns : goal.returns
returns c =
    subst (λ (k : Known). OnOk c.add_reset_bits.result ((more : List ℕ) × (c.add_reset_bits.new.bits.items ≡ c.args.bits.now.items ++ more)
    × HasBitsOf (bit_count (design_of k.arena)) more (reset_bits_or (design_of k.arena) c.args.clocks.now (slice_get (design_of k.arena).processes c.args.process))))
    (ap (λ (l : Laid). l.known) c.self.view_is) c.add_reset_bits.ensures
