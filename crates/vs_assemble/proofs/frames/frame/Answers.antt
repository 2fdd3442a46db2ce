use Rattle.std.proofs.Common.{arith}
use Rattle.vs_assemble.proofs.frames.frame.Goals as goal

pub overflow_cast-bits : goal.overflow_cast-bits
overflow_cast-bits c = omega (arith, c.requires.starts.count, c.requires.lawful.design.few_bits)

pub returns : goal.returns
returns c = record {
  bits_are = c.requires.starts.count;
  inputs_are = c.in_ok-inputs.ensures;
  clocks_are = c.in_ok-clocks.ensures.items;
  nets_are = c.requires.nets;
  initial_is = (c.args.starts.now, c.requires.starts, c.in_ok-initial.ensures);
  signals_are = c.in_ok-signals.ensures;
}
