use Rattle.std.proofs.Common.{sym, ◌∙◌}
use Rattle.vs_sets.specs.Completing.{done}
use Rattle.vs_sets.proofs.Completing.{done_bits}
use Rattle.vs_block.proofs.Branching.{set_as}
use Rattle.vs_block.proofs.Blocks.{latch_is}
use Rattle.vs_block.proofs.latches.first_latch_in.Goals as goal

pub returns : goal.returns
returns c =
    latch_is c.args.own.now (done c.args.defaults.now.complete c.args.shapes.now c.args.statement) c.args.assigned.now c.args.early.now c.walk.new.early c.set_flags.new.flags c.in_ok-found.found.items c.first_kept.result c.requires.unset c.requires.unread (λ b. c.requires.own b ∙ sym (done_bits c.args.defaults.now.complete c.args.shapes.now c.args.statement b))
    c.in_ok-found.ensures.walked (set_as c.args.own.now _ _ _ _ _ c.set_flags.new.flags c.as_slice.ensures.value c.in_ok-found.ensures.same c.set_flags.ensures) c.first_kept.ensures
