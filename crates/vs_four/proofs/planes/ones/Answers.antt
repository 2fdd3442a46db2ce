use Rattle.std.proofs.Common.{◌-◌, ◌^◌, ◌∙◌, ap, arith}
use Rattle.std.proofs.lemmas.Nat.Bits.{ones_shr}
use Rattle.vs_four.proofs.planes.ones.Goals as goal

pub returns : goal.returns
returns c = ones_shr 64 (64 - c.args.len) (omega arith) ∙ ap (λ k. 2 ^ k - 1) (omega arith)
