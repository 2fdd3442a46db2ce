use Rattle.std.proofs.Common.{ℕ, List, ap, ◌∙◌}
use Rattle.vs_design.specs.Footprints.{contains}
use Rattle.vs_block.specs.Flags.{bit_at}
use Rattle.vs_block.proofs.FlagSteps.{flagged_more, flagged_same, same_flag, other_flag}
use Rattle.vs_block.proofs.flags.flagged.Goals as goal
use Rattle.vs_block.proofs.flags.flagged.Goals.{then-has_flag-flag+in_ok-push, else-has_flag-flag}

pub loop-bit-preserved : goal.loop-bit-preserved
loop-bit-preserved c k l =
    let b = bit_at c.args.own.now k in
    elim c.if-has_flag-flag.branch [
      | then-has_flag-flag+in_ok-push w ↦
          (ap (λ v. contains v.items b) w.found-is ∙ ap (λ (zs : List ℕ). contains zs b) w.in_ok-push.ensures.items
          ∙ flagged_more c.args.own.now c.args.bits.now c.loop-bit.bit-index c.args.flags.now c.args.flag c.has_flag.result c.loop-bit.found.items c.loop-bit-test.true c.has_flag.ensures
          (same_flag c.has_flag.result c.args.flag w.if-has_flag-flag.true) c.loop-bit.invariant k l)
      | else-has_flag-flag w ↦
          ap (λ v. contains v.items b) w.found-is
          ∙ flagged_same c.args.own.now c.args.bits.now c.loop-bit.bit-index c.args.flags.now c.args.flag c.has_flag.result c.loop-bit.found.items c.loop-bit-test.true c.has_flag.ensures
          (other_flag c.has_flag.result c.args.flag w.if-has_flag-flag.false) c.loop-bit.invariant k l
    ]
