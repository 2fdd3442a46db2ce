use Rattle.std.proofs.Common.{◌≡◌, ◌+◌, List, take, [], ◌∷◌, ◌++◌, length, append_assoc, append-nil, sym, ap, ◌∙◌, subst, arith}
use Rattle.vs_code.specs.Calls.{Call}
use Rattle.vs_program.specs.declared.compiled.Run.{Run}
use Rattle.vs_assemble.specs.Runs.{AreRunsOf}
use Rattle.vs_assemble.proofs.Stepping.{room_after, one_more, all_runs, all_few}
use Rattle.vs_assemble.proofs.assembling.lower_each.Goals as goal

pub lower-requires-clause-few : goal.lower-requires-clause-few
lower-requires-clause-few g c =
    room_after (g.T.Processes.design c.args.lowering.now) c.args.processes.now c.loop-process.process-index _ _ c.loop-process-test.true c.loop-process.invariant.few c.requires.few

pub loop-process-init : goal.loop-process-init
loop-process-init g c = record {
  runs = subst (λ (rs : List Run). AreRunsOf (g.T.Processes.design c.args.lowering.now) (g.T.Lowering.layout c.args.lowering.now) c.args.program.now [] rs) (sym c.new-runs.ensures.items) tt;
  grown = ([], sym (append-nil c.args.program.now));
  few = omega arith;
  slots = λ h. h;
}

pub loop-process-preserved : goal.loop-process-preserved
loop-process-preserved g c =
    let low = c.in_ok-lower.ensures in
    let inv = c.loop-process.invariant in
    let more = one_more c.program_law.ensures.stores (g.T.Processes.design c.args.lowering.now) (g.T.Lowering.layout c.args.lowering.now) c.requires.room c.args.program.now c.args.processes.now c.loop-process.process-index
    c.loop-process.program c.lower.new.program low.0 c.loop-process.runs.items c.loop-process-test.true inv.runs inv.few low.1 low.2 in
    let items : c.push.new.self.items ≡ c.loop-process.runs.items ++ (record { from = length c.loop-process.program; to = length c.lower.new.program }) ∷ [] =
    cc (c.in_ok-push.ensures.items, c.len-from.ensures, c.len-to.ensures) in
    record {
      runs = subst (λ (rs : List Run). AreRunsOf (g.T.Processes.design c.args.lowering.now) (g.T.Lowering.layout c.args.lowering.now) c.lower.new.program (take (c.loop-process.process-index + 1) c.args.processes.now) rs) (sym items) more.runs;
      grown = (inv.grown.0 ++ low.0, low.1 ∙ ap (λ (cs : List Call). cs ++ low.0) inv.grown.1 ∙ append_assoc c.args.program.now inv.grown.0 low.0);
      few = more.few;
      slots = λ h. more.slots (inv.slots h);
    }

pub returns-clause-runs : goal.returns-clause-runs
returns-clause-runs g c =
    all_runs (g.T.Processes.design c.args.lowering.now) (g.T.Lowering.layout c.args.lowering.now) c.loop-process.program c.args.processes.now c.loop-process.process-index c.loop-process.runs.items c.loop-process-test.false c.loop-process.invariant.runs

pub returns-clause-few : goal.returns-clause-few
returns-clause-few g c = all_few (g.T.Processes.design c.args.lowering.now) c.args.processes.now c.loop-process.process-index _ _ c.loop-process.invariant.few
