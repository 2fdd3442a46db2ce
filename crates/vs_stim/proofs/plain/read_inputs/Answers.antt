use Rattle.std.proofs.Common.{false, refl, arith}
use Rattle.vs_stim.specs.declared.input.Column.{Column}
use Rattle.vs_stim.proofs.LineRead.{begins_within, inputs_none, inputs_more, inputs_sizes}
use Rattle.vs_stim.proofs.plain.read_inputs.Goals as goal

pub loop-n-init : goal.loop-n-init
loop-n-init c = record { sizes = refl; reads = inputs_none c.args.columns.now c.args.bytes.now c.args.values.now; within = omega arith }

pub loop-n-preserved : goal.loop-n-preserved
loop-n-preserved c =
    let none : Column = record { input = 0; length = 0; reset = false; select = false } in
    let inv = c.loop-n.invariant in
    let reads =
    inputs_more c.args.columns.now c.loop-n.n c.loop-n.at c.args.bytes.now c.args.values.now c.loop-n.values none c.in_ok-values.field-0 c.requires.each inv.reads (omega (arith, c.loop-n-test.true, c.requires.count)) c.in_ok-values.ensures.field in
    record {
      sizes = inputs_sizes c.args.columns.now c.loop-n.n c.args.values.now c.loop-n.values none c.in_ok-values.field-0 c.requires.each inv.sizes (omega (arith, c.loop-n-test.true, c.requires.count)) c.in_ok-values.ensures.size;
      reads = reads;
      within = begins_within _ _ _ reads.begins;
    }
