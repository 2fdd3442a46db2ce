use Rattle.std.proofs.Common.{◌≡◌, ◌≤◌, ℕ, min, ap, refl, length, Some, arith, subst}
use Rattle.vs_four.specs.Planes.{bits_of_planes}
use Rattle.vs_four.specs.PlanesBack.{length-planes}
use Rattle.vs_const.proofs.operators.literal.Goals as goal

pub returns : goal.returns
returns c =
    let e = length-planes c.args.n.now.size c.args.n.now.value c.args.n.now.unknown in
    record { flaws = c.flawless.ensures; good = refl; length = ap Some (small c.args.n.now.size (length (bits_of_planes c.args.n.now.size c.args.n.now.value c.args.n.now.unknown)) e (subst (λ k. k ≤ 64) e c.requires.most)); signed = refl; depth = refl }
  where
    small : (n m : ℕ) → m ≡ n → n ≤ 64 → n ≡ min 65 m
    small n m e h = omega (arith, e)
