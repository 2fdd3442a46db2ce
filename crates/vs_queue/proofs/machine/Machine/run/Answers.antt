use Rattle.std.proofs.Common.{length, sym, ap, ◌∙◌, arith}
use Rattle.vs_flat.specs.Arena.{Arena}
use Rattle.vs_writes.specs.Held.{state_of}
use Rattle.vs_queue.proofs.Executed.{on_ok}
use Rattle.vs_queue.proofs.machine.Machine.run.Goals as goal

pub run_keeper-requires-clause-past : goal.run_keeper-requires-clause-past
run_keeper-requires-clause-past c =
    let l = c.if-p-process_count.true in
    let m = c.process_count.ensures.count in
    let n = ap (λ (z : Arena). length z.processes) c.flat-flat.ensures.same in
    let k = (c.trees_law.ensures.counts c.args.self.now.typed.now).processes in
    omega (arith, l, m, n, k)

pub run_process-requires-clause-there : goal.run_process-requires-clause-there
run_process-requires-clause-there c =
    let l = c.if-p-process_count.false in
    let m = c.process_count.ensures.count in
    let n = ap (λ (z : Arena). length z.processes) c.flat-flat.ensures.same in
    let k = (c.trees_law.ensures.counts c.args.self.now.typed.now).processes in
    omega (arith, l, m, n, k)

pub returns-then-p-process_count : goal.returns-then-p-process_count
returns-then-p-process_count c = record {
  events = c.run_keeper.ensures.events;
  shadow = on_ok c.run_keeper.result c.run_keeper.ensures.values (λ h. c.requires.shadow ∙ sym (ap state_of h));
}
