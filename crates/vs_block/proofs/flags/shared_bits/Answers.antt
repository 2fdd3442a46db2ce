use Rattle.std.proofs.Common.{arith}
use Rattle.vs_block.proofs.FlagSteps.{put_back}
use Rattle.vs_block.proofs.flags.shared_bits.Goals as goal

pub returns-clause-same : goal.returns-clause-same
returns-clause-same c =
    put_back c.args.own.now c.args.first.now c.args.assigned.now c.set_flags.new.flags c.set_flags-2.new.flags c.requires.many (omega arith) c.requires.fresh c.set_flags.ensures c.set_flags-2.ensures
