use Rattle.std.proofs.Common.{bit_and, ap, ap₂, ◌∙◌}
use Rattle.std.proofs.lemmas.Nat.{and_mask}
use Rattle.vs_four.specs.Planes.{bits_of_planes}
use Rattle.vs_four.proofs.PlaneParts.{mod-planes}
use Rattle.vs_four.proofs.planes.Bits.of_planes.Goals as goal

pub returns : goal.returns
returns c =
    let n = c.args.len in let v = c.args.value in let u = c.args.unknown in
    ap (λ m. bits_of_planes n (bit_and v m) (bit_and u m)) c.ones-kept.ensures
    ∙ ap₂ (bits_of_planes n) (and_mask v n) (and_mask u n) ∙ mod-planes n v u
