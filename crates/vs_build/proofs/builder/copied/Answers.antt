use Rattle.std.proofs.Common.{◌++◌, ◌+◌, ◌≡◌, suc, ap, ◌∙◌, arith}
use Rattle.vs_four.specs.Lengths.{repeat}
use Rattle.vs_build.proofs.Copies.{repeat_more}
use Rattle.vs_build.proofs.builder.copied.Goals as goal

pub loop-made-preserved : goal.loop-made-preserved
loop-made-preserved c =
    let next : suc c.loop-made.made ≡ c.loop-made.made + 1 = omega arith in
    (omega arith, c.in_ok-extend_from_slice.ensures.items ∙ ap (λ xs. xs ++ c.args.part.now) c.loop-made.invariant.1 ∙ repeat_more c.loop-made.made c.args.part.now ∙ ap (λ n. repeat n c.args.part.now) next)

pub returns : goal.returns
returns c = let all : c.loop-made.made ≡ c.args.copies = omega arith in c.loop-made.invariant.1 ∙ ap (λ n. repeat n c.args.part.now) all
