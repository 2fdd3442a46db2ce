use Rattle.std.proofs.Common.{arith}
use Rattle.vs_flat.specs.DesignOf.{design_of}
use Rattle.vs_accept.proofs.Numbered.{start_begins, start_begins_nowhere}
use Rattle.vs_accept.proofs.numbers.initial_begin.Goals as goal

pub returns-then-initial-initial_count : goal.returns-then-initial-initial_count
returns-then-initial-initial_count c =
    let same = (c.trees_law.ensures.counts c.args.flat.now).initials in
    start_begins_nowhere (design_of c.args.flat.now) c.args.initial (omega (arith, same, c.initial_count.ensures.count, c.if-initial-initial_count.true))

pub returns : goal.returns
returns c = start_begins (design_of c.args.flat.now) c.args.initial _ (c.trees_law.ensures.initials c.args.flat.now c.args.initial c.initial.result c.initial.ensures)
