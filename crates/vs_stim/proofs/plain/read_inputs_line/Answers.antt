use Rattle.std.proofs.Common.{◌-◌, false, length, arith}
use Rattle.vs_stim.proofs.LineRead.{inputs_end, inputs_sizes}
use Rattle.vs_stim.proofs.plain.read_inputs_line.Goals as goal

pub returns-clause-sizes : goal.returns-clause-sizes
returns-clause-sizes c =
    inputs_sizes c.args.columns.now (length c.args.columns.now - 1) c.args.values.now c.read_inputs.new.values (record { input = 0; length = 0; reset = false; select = false }) c.in_ok-values.field-0 c.requires.each c.read_inputs.ensures.sizes (omega (arith, c.requires.some)) c.in_ok-values.ensures.size

pub returns-clause-ends : goal.returns-clause-ends
returns-clause-ends c =
    inputs_end c.args.columns.now (length c.args.columns.now - 1) c.in_ok-at.at c.args.bytes.now c.args.values.now c.read_inputs.new.values (record { input = 0; length = 0; reset = false; select = false }) c.in_ok-values.field-0 c.requires.each c.in_ok-at.ensures.reads (omega (arith, c.requires.some)) c.in_ok-values.ensures.field
