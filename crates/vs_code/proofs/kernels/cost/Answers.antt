use Rattle.std.proofs.Common.{◌<◌, ◌^◌, arith}
use Rattle.std.proofs.lemmas.List.Elements.{All-from_get_or}
use Rattle.vs_code.proofs.Weights.{weight_fits}
use Rattle.vs_code.proofs.kernels.cost.Goals as goal

pub cost-requires-in-Arith-clause-fits : goal.cost-requires-in-Arith-clause-fits
cost-requires-in-Arith-clause-fits c =
    let short = All-from_get_or (λ n. n < 2 ^ 32) c.args.lengths.now 0 (λ i l. omega (arith, c.type_inv.lengths i)) in
    weight_fits c.in-Arith.kernel c.args.lengths.now short (rw c.in-Arith.is at c.requires.fits)
