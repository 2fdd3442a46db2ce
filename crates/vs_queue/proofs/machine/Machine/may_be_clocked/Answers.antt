use Rattle.std.proofs.Common.{◌≡◌, false, length, sym, ap, ◌∙◌, subst, arith, Some}
use Rattle.std.specs.Prelude.{slice_get}
use Rattle.std.specs.List.{list_any}
use Rattle.vs_net.specs.Network.{kind}
use Rattle.vs_design.specs.Networks.{network_of}
use Rattle.vs_flat.specs.Arena.{Arena}
use Rattle.vs_flat.specs.DesignOf.{design_of}
use Rattle.vs_flat.specs.Events.{is_edge_event}
use Rattle.vs_queue.specs.Sweeps.{is_clocked_kind}
use Rattle.vs_queue.proofs.LevelTurns.{past_may, within_may, assign_unclocked, block_clocked}
use Rattle.vs_queue.proofs.machine.Machine.may_be_clocked.Goals as goal

pub returns-then-p-process_count : goal.returns-then-p-process_count
returns-then-p-process_count c =
    let a = c.args.self.now.typed.now in
    let d = design_of a in
    let m = c.process_count.ensures.count in
    let n = ap (λ (z : Arena). length z.processes) c.flat-flat.ensures.same in
    let k = (c.trees_law.ensures.counts a).processes in
    let l = c.if-p-process_count.true in
    past_may (is_clocked_kind (kind ((network_of d c.args.self.now.clocks.now.bits).process c.args.p))) (length d.processes) c.args.p (omega (arith, l, m, n, k))

pub returns-in-Assign : goal.returns-in-Assign
returns-in-Assign c =
    let a = c.args.self.now.typed.now in
    let d = design_of a in
    let m = c.process_count.ensures.count in
    let n = ap (λ (z : Arena). length z.processes) c.flat-flat.ensures.same in
    let j = (c.trees_law.ensures.counts a).processes in
    let l = c.if-p-process_count.false in
    let at = subst (λ (z : Arena). slice_get z.processes c.args.p ≡ Some c.process.result.now) c.flat-flat.ensures.same c.process.ensures in
    within_may (is_clocked_kind (kind ((network_of d c.args.self.now.clocks.now.bits).process c.args.p))) false (length d.processes) c.args.p
    (assign_unclocked c.trees_law.ensures.processes a c.args.self.now.clocks.now.bits c.args.p c.process.result.now at c.in-Assign.target c.in-Assign.expr c.in-Assign.port c.in-Assign.is) (omega (arith, l, m, n, j))

pub returns-in-Block : goal.returns-in-Block
returns-in-Block c =
    let a = c.args.self.now.typed.now in
    let d = design_of a in
    let m = c.process_count.ensures.count in
    let n = ap (λ (z : Arena). length z.processes) c.flat-flat.ensures.same in
    let j = (c.trees_law.ensures.counts a).processes in
    let l = c.if-p-process_count.false in
    let at = subst (λ (z : Arena). slice_get z.processes c.args.p ≡ Some c.process.result.now) c.flat-flat.ensures.same c.process.ensures in
    within_may (is_clocked_kind (kind ((network_of d c.args.self.now.clocks.now.bits).process c.args.p))) c.has_edge.result (length d.processes) c.args.p
    (block_clocked c.trees_law.ensures.processes a c.args.self.now.clocks.now.bits c.args.p c.process.result.now at c.in-Block.star c.in-Block.events c.in-Block.statement c.in-Block.is
    ∙ sym (c.has_edge.ensures ∙ ap (list_any is_edge_event) c.as_slice.ensures)) (omega (arith, l, m, n, j))
