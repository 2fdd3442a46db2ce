use Rattle.std.proofs.Common.{◌∙◌}
use Rattle.vs_driver.proofs.Writing.{initial_adds}
use Rattle.vs_driver.proofs.writers.with_initial.Goals as goal

pub returns : goal.returns
returns c i h = initial_adds c.args.so_far c.with_any.result c.args.bit c.args.k i c.as_slice.result.now (c.as_slice.ensures.value ∙ c.in_ok-bits.ensures.bits i h) c.with_any.ensures
