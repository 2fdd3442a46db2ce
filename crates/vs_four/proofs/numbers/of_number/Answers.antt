use Rattle.std.proofs.Common.{bit_and, ap, ◌∙◌}
use Rattle.std.proofs.lemmas.Nat.{and_mask}
use Rattle.vs_four.specs.Planes.{bits_of_planes}
use Rattle.vs_four.proofs.NumberLemmas.{planes-mod}
use Rattle.vs_four.proofs.numbers.of_number.Goals as goal

pub returns : goal.returns
returns c =
    let n = c.args.len in let m = c.args.number in
    ap (λ v. bits_of_planes n v 0) (ap (bit_and m) c.ones.ensures ∙ and_mask m n) ∙ planes-mod n m
