use Rattle.std.proofs.Common.{◌<◌, length, arith}
use Rattle.vs_flat.specs.DesignOf.{design_of}
use Rattle.vs_accept.proofs.LeftOut.{marks_count, none_yet, still_below, left_more, all_left}
use Rattle.vs_accept.proofs.leaving.left_out.Goals as goal

pub loop-p-init : goal.loop-p-init
loop-p-init c = none_yet c.args.flat c.args.dead.now c.requires.lawful

pub leave_if-requires : goal.leave_if-requires
leave_if-requires c =
    let l = c.loop-p-test.true in
    let m = c.process_count-p-end.ensures.count in
    let n = (c.trees_law.ensures.counts c.args.flat).processes in
    let all = marks_count (design_of c.args.flat) c.args.dead.now c.requires.dead in
    let inside : c.loop-p.p < length c.args.dead.now = omega (arith, l, m, n, all) in
    let below = still_below (design_of c.args.flat) c.args.dead.now c.requires.dead c.loop-p.left c.loop-p.p inside c.loop-p.invariant in
    let k = (c.trees_law.ensures.counts c.loop-p.left).processes in
    omega (arith, below, k)

pub loop-p-preserved : goal.loop-p-preserved
loop-p-preserved c =
    let l = c.loop-p-test.true in
    let m = c.process_count-p-end.ensures.count in
    let n = (c.trees_law.ensures.counts c.args.flat).processes in
    let all = marks_count (design_of c.args.flat) c.args.dead.now c.requires.dead in
    let inside : c.loop-p.p < length c.args.dead.now = omega (arith, l, m, n, all) in
    let below = still_below (design_of c.args.flat) c.args.dead.now c.requires.dead c.loop-p.left c.loop-p.p inside c.loop-p.invariant in
    let k = (c.trees_law.ensures.counts c.loop-p.left).processes in
    left_more c.trees_law.ensures.processes c.leaving_law.ensures.design c.leaving_law.ensures.lawful (design_of c.args.flat) c.args.dead.now c.requires.dead c.loop-p.left c.leave_if.new.flat c.loop-p.p
    c.is_marked.result c.is_marked.ensures inside (omega (arith, below, k)) c.in_ok-leave_if.ensures.ok c.in_ok-leave_if.ensures.room c.loop-p.invariant

pub returns-clause-lawful : goal.returns-clause-lawful
returns-clause-lawful c = c.loop-p.invariant.lawful

pub returns-clause-design : goal.returns-clause-design
returns-clause-design c =
    let l = c.loop-p-test.false in
    let m = c.process_count-p-end.ensures.count in
    let n = (c.trees_law.ensures.counts c.args.flat).processes in
    let all = marks_count (design_of c.args.flat) c.args.dead.now c.requires.dead in
    all_left (design_of c.args.flat) c.args.dead.now c.requires.dead c.loop-p.left c.loop-p.p (omega (arith, l, m, n, all)) c.loop-p.invariant
