use Rattle.vs_driver.proofs.Writing.{any_added, any_left}
use Rattle.vs_driver.proofs.writers.with_one.Goals as goal

pub returns-then-writes : goal.returns-then-writes
returns-then-writes c = any_added c.args.so_far c.with.result c.args.x c.args.writes c.if-writes.true c.with.ensures

pub returns-else-writes : goal.returns-else-writes
returns-else-writes c = any_left c.args.so_far c.args.x c.args.writes c.if-writes.false
