use Rattle.std.proofs.Common.{◌≡◌, ◌∙◌, Some, slice_get, sym, ap, subst, arith}
use Rattle.vs_flat.specs.Arena.{Arena}
use Rattle.vs_flat.specs.Lawful.{IsLawful}
use Rattle.vs_values.proofs.Named.{signal_fits}
use Rattle.vs_lower.proofs.named.declared.Goals as goal

pub local_of-requires-clause-lawful : goal.local_of-requires-clause-lawful
local_of-requires-clause-lawful c = subst IsLawful (sym c.flat-flat.ensures.same) c.flat-flat.ensures.lawful

pub returns-in-Global-clause-few : goal.returns-in-Global-clause-few
returns-in-Global-clause-few c =
    let a = c.args.templates.now.arena in
    let n = c.in-Global.signal in
    let at : slice_get a.signals n ≡ Some c.signal.result.now = ap (λ (x : Arena). slice_get x.signals n) (sym c.flat-flat.ensures.same) ∙ c.signal.ensures in
    let few = c.flat-flat.ensures.lawful.design.few_bits in
    let count = (c.trees_law.ensures.counts a).bits in
    omega (arith, few, count, signal_fits 0 0 a.signals n c.signal.result.now c.flat-flat.ensures.lawful.design.bits_numbered at)
