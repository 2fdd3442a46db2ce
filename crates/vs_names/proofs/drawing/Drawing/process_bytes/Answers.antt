use Rattle.std.proofs.Common.{length, ap, arith}
use Rattle.vs_flat.specs.DesignOf.{design_of}
use Rattle.vs_names.specs.Drawn.{Drawn, byte_of}
use Rattle.vs_names.proofs.Found.{each_more, each_one}
use Rattle.vs_names.proofs.drawing.Drawing.process_bytes.Goals as goal

pub loop-process-preserved : goal.loop-process-preserved
loop-process-preserved c =
    let d = c.args.self.now in
    let counts = c.trees_law.ensures.counts d.flat in
    let same = ap (λ (x : Drawn). length x.flat.processes) c.self.view_is in
    each_more (byte_of d) (design_of d.flat).processes c.loop-process.process c.loop-process.bytes.items c.push.new.self.items c.own_byte-byte.result
    (omega (arith, c.loop-process-test.true, c.process_count-process-end.ensures.count, counts.processes, same)) c.loop-process.invariant c.in_ok-push.ensures.items c.own_byte-byte.ensures

pub returns : goal.returns
returns c =
    let d = c.args.self.now in
    let counts = c.trees_law.ensures.counts d.flat in
    let same = ap (λ (x : Drawn). length x.flat.processes) c.self.view_is in
    each_one (byte_of d) (design_of d.flat).processes c.loop-process.process c.loop-process.bytes.items (omega (arith, c.loop-process-test.false, c.process_count-process-end.ensures.count, counts.processes, same)) c.loop-process.invariant
