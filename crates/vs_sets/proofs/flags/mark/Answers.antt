use Rattle.std.proofs.Common.{◌<◌, List, ℕ, length, get_or, subst, arith}
use Rattle.std.proofs.lemmas.Grind.{common_steps}
use Rattle.std.proofs.lemmas.List.{take_all}
use Rattle.vs_sets.proofs.FlagSteps.{Marked, mark_step}
use Rattle.vs_sets.proofs.flags.mark.Goals as goal

pub loop-i-preserved : goal.loop-i-preserved
loop-i-preserved c =
    let bits = c.args.bits.now in
    let i = c.loop-i.i in
    let within : get_or bits i 0 < length c.loop-i.flags = grind (arith, common_steps, c.requires, c.loop-i.auto.flags) in
    mark_step c.loop-i.flags c.args.flags.now bits i c.args.value c.loop-i-test.true within c.loop-i.invariant

pub returns : goal.returns
returns c = subst (λ (bs : List ℕ). Marked bs c.args.value c.args.flags.now c.loop-i.flags) (take_all c.loop-i.i c.args.bits.now c.loop-i-test.false) c.loop-i.invariant
