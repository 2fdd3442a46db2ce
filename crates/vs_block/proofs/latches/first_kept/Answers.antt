use Rattle.std.proofs.Common.{◌≡◌, ◌||◌, not, true, false, sym, ap, ◌∙◌, arith}
use Rattle.std.proofs.lemmas.Grind.{common_steps}
use Rattle.vs_block.specs.Flags.{is_set}
use Rattle.vs_reads.proofs.Tests.{or_left, or_right}
use Rattle.vs_block.proofs.Least.{first_is, first_none}
use Rattle.vs_block.proofs.latches.first_kept.Goals as goal
use Rattle.vs_block.proofs.latches.first_kept.Goals.{then-early-k-via-then-early-k, then-early-k-via-else-early-k+then-not-assigned-k}

pub returns-then-early-k : goal.returns-then-early-k
returns-then-early-k c keeps h =
    let k = c.loop-k.k in
    let here : (is_set c.args.early.now k || not (is_set c.args.assigned.now k)) ≡ true =
    elim c.then-early-k.branch [
      | then-early-k-via-then-early-k w ↦ (or_left (is_set c.args.early.now k) (not (is_set c.args.assigned.now k)) (grind (arith, common_steps, w.if-early-k.true)))
      | then-early-k-via-else-early-k+then-not-assigned-k w ↦ or_right (is_set c.args.early.now k) (not (is_set c.args.assigned.now k)) (let off : is_set c.args.assigned.now k ≡ false = grind (arith, common_steps, w.if-not-assigned-k.true) in ap not off)
    ]
    in
    sym (first_is keeps c.args.own.now k c.requires.rising (omega arith) (h k (omega arith) ∙ here) (λ j l. h j (omega (arith, l)) ∙ c.loop-k.invariant j l))

pub returns : goal.returns
returns c keeps h = sym (first_none keeps c.args.own.now (λ j l. h j l ∙ c.loop-k.invariant j (omega (arith, l))))
