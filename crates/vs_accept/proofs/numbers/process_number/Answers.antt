use Rattle.std.proofs.Common.{arith}
use Rattle.vs_flat.specs.DesignOf.{design_of}
use Rattle.vs_accept.proofs.Numbered.{has_number, has_none}
use Rattle.vs_accept.proofs.numbers.process_number.Goals as goal

pub returns-then-process-process_count : goal.returns-then-process-process_count
returns-then-process-process_count c =
    let same = (c.trees_law.ensures.counts c.args.flat.now).processes in
    has_none (design_of c.args.flat.now) c.args.process (omega (arith, same, c.process_count.ensures.count, c.if-process-process_count.true))

pub returns : goal.returns
returns c =
    let same = (c.trees_law.ensures.counts c.args.flat.now).processes in
    has_number (design_of c.args.flat.now) c.args.process c.starts_before.result (omega (arith, same, c.process_count.ensures.count, c.if-process-process_count.false)) c.starts_before.ensures.count
