use Rattle.std.proofs.Common.{set, ap, ◌∙◌}
use Rattle.vs_design.specs.Sets.{Set4}
use Rattle.vs_sets.specs.Tables.{family_of}
use Rattle.vs_zero.proofs.Sourcing.{clock_put, clock_left}
use Rattle.vs_zero.proofs.families.set_clock.Goals as goal

pub returns-then-clock-table : goal.returns-then-clock-table
returns-then-clock-table c =
    ap (λ (s : Set4). family_of (set c.args.table.now c.args.clock s)) c.only.ensures ∙ clock_put c.args.clock c.args.table.now c.if-clock-table.true

pub returns-else-clock-table : goal.returns-else-clock-table
returns-else-clock-table c = clock_left c.args.clock c.args.table.now c.if-clock-table.false
