use Rattle.std.proofs.Common.{sym, ap, ◌∙◌}
use Rattle.vs_clock.specs.Ports.{one_bit}
use Rattle.vs_clock.proofs.ports.only_bit.Goals as goal

pub returns : goal.returns
returns c = c.bit_in.ensures c.args.signal ∙ sym (ap one_bit (c.trees_law.ensures.signals c.args.flat.now c.args.signal c.signal.result.now c.signal.ensures))
