use Rattle.std.proofs.Common.{map, length, ap, ◌∙◌, arith}
use Rattle.vs_flat.specs.DesignOf.{design_of}
use Rattle.vs_queue.specs.Beginnings.{role_of_process}
use Rattle.vs_queue.proofs.Roles.{roles_more, roles_whole, inputs_more, roles_all}
use Rattle.vs_queue.proofs.first.roles_of.Goals as goal

pub loop-p-preserved : goal.loop-p-preserved
loop-p-preserved c =
    c.in_ok-push.ensures.items ∙ roles_more c.trees_law.ensures.processes c.args.flat.now c.loop-p.p c.process.result.now c.process.ensures c.loop-p.roles.items c.loop-p.invariant c.role_of.result c.role_of.ensures

pub loop-i-init : goal.loop-i-init
loop-i-init c =
    let l = c.loop-p-test.false in
    let m = c.process_count-p-end.ensures.count in
    let n = (c.trees_law.ensures.counts c.args.flat.now).processes in
    roles_whole (design_of c.args.flat.now).processes c.loop-p.p c.loop-p.roles.items (omega (arith, l, m, n)) c.loop-p.invariant

pub loop-i-preserved : goal.loop-i-preserved
loop-i-preserved c = c.in_ok-push-2.ensures.items ∙ inputs_more (map role_of_process (design_of c.args.flat.now).processes) c.loop-i.i c.loop-i.roles.items c.loop-i.invariant

pub returns : goal.returns
returns c =
    let l = c.loop-i-test.false in
    let m = c.loop-i.auto.i-end in
    let k = ap length c.top_inputs-i-end.ensures in
    roles_all c.trees_law.ensures.inputs c.args.flat.now c.loop-i.i c.loop-i.roles.items (omega (arith, l, m, k)) c.loop-i.invariant
