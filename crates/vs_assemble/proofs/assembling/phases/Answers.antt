use Rattle.std.proofs.Common.{◌≡◌, ◌<◌, ℕ, List, [], ◌∷◌, length, sym, ap, ◌∙◌, subst}
use Rattle.std.specs.List.{All}
use Rattle.vs_cone.specs.Cones.{cone}
use Rattle.vs_program.specs.declared.compiled.Run.{Run}
use Rattle.vs_assemble.specs.Runs.{AreJoinedRuns, AreRunsOf}
use Rattle.vs_assemble.proofs.Fitting.{plan_there}
use Rattle.vs_assemble.proofs.Phased.{phased}
use Rattle.vs_assemble.proofs.Running.{runs_count}
use Rattle.vs_assemble.proofs.assembling.phases.Goals as goal

pub cone_of-requires-clause-runs : goal.cone_of-requires-clause-runs
cone_of-requires-clause-runs g c =
    ap length c.as_slice-settling.ensures.value
    ∙ runs_count (g.T.Processes.design c.args.lowering.now) (g.T.Lowering.layout c.args.lowering.now) c.args.lowered.now.program c.args.plan.now.settling.items c.args.lowered.now.settling.items c.requires.lowered.settling_are
    ∙ sym (ap length c.as_slice.ensures.value)

pub cone_of-requires-clause-order : goal.cone_of-requires-clause-order
cone_of-requires-clause-order g c =
    let d = g.T.Processes.design c.args.lowering.now in
    subst (λ (ps : List ℕ). All (λ p. p < length d.processes) ps) (sym c.as_slice.ensures.value)
    (plan_there c.cycle_law.ensures.order d c.args.clocks.now c.args.order.now c.requires.order c.args.plan.now.settling.items c.args.plan.now.blocks.items c.args.plan.now.registers.items c.args.plan.now.falling.items c.requires.plan)

pub cone_of-requires-2-clause-runs : goal.cone_of-requires-2-clause-runs
cone_of-requires-2-clause-runs g c =
    ap length c.as_slice-settling.ensures.value
    ∙ runs_count (g.T.Processes.design c.args.lowering.now) (g.T.Lowering.layout c.args.lowering.now) c.args.lowered.now.program c.args.plan.now.settling.items c.args.lowered.now.settling.items c.requires.lowered.settling_are
    ∙ sym (ap length c.as_slice-3.ensures.value)

pub cone_of-requires-2-clause-order : goal.cone_of-requires-2-clause-order
cone_of-requires-2-clause-order g c =
    let d = g.T.Processes.design c.args.lowering.now in
    subst (λ (ps : List ℕ). All (λ p. p < length d.processes) ps) (sym c.as_slice-3.ensures.value)
    (plan_there c.cycle_law.ensures.order d c.args.clocks.now c.args.order.now c.requires.order c.args.plan.now.settling.items c.args.plan.now.blocks.items c.args.plan.now.registers.items c.args.plan.now.falling.items c.requires.plan)

pub returns : goal.returns
returns g c =
    let d = g.T.Processes.design c.args.lowering.now in
    let lay = g.T.Lowering.layout c.args.lowering.now in
    let plan = c.args.plan.now in
    let lowered = c.args.lowered.now in
    let runs : (order : List ℕ) → order ≡ plan.settling.items → AreRunsOf d lay lowered.program order c.as_slice-settling.result.now = λ order is.
    subst (λ (rs : List Run). AreRunsOf d lay lowered.program order rs) (sym c.as_slice-settling.ensures.value) (subst (λ (ps : List ℕ). AreRunsOf d lay lowered.program ps lowered.settling.items) (sym is) c.requires.lowered.settling_are) in
    let falls : AreRunsOf d lay lowered.program (cone d plan.falling.items plan.settling.items) c.in_ok-falling.falling.items =
    let P : List ℕ → List ℕ → Type 0 = λ changed order. AreRunsOf d lay lowered.program (cone d changed order) c.in_ok-falling.falling.items in
    subst (λ changed. P changed plan.settling.items) c.as_slice-2.ensures.value (subst (P c.as_slice-2.result.now) c.as_slice.ensures.value (c.in_ok-falling.ensures lowered.program (runs c.as_slice.result.now c.as_slice.ensures.value))) in
    let rises : AreRunsOf d lay lowered.program (cone d plan.registers.items plan.settling.items) c.in_ok-rising.rising.items =
    let P : List ℕ → List ℕ → Type 0 = λ changed order. AreRunsOf d lay lowered.program (cone d changed order) c.in_ok-rising.rising.items in
    subst (λ changed. P changed plan.settling.items) c.as_slice-4.ensures.value (subst (P c.as_slice-4.result.now) c.as_slice-3.ensures.value (c.in_ok-rising.ensures lowered.program (runs c.as_slice-3.result.now c.as_slice-3.ensures.value))) in
    phased d c.args.clocks.now lay c.args.order.now plan.settling.items plan.blocks.items plan.registers.items plan.falling.items c.requires.plan lowered c.requires.lowered
    c.in_ok-falling.falling.items c.in_ok-rising.rising.items falls rises (record { first = c.in_ok-first.first; fall = c.in_ok-fall.fall; next = c.in_ok-next.next; rise = c.in_ok-rise.rise })
    (subst (λ rs. AreJoinedRuns (lowered.resets ∷ []) rs c.in_ok-first.first.items) c.as_slice-settling.ensures.value c.in_ok-first.ensures)
    (subst (λ rs. AreJoinedRuns (lowered.resets ∷ []) rs c.in_ok-fall.fall.items) c.as_slice-5.ensures.value c.in_ok-fall.ensures)
    (subst (λ rs. AreJoinedRuns rs (lowered.copy ∷ []) c.in_ok-next.next.items) c.as_slice-6.ensures.value c.in_ok-next.ensures)
    (subst (λ rs. AreJoinedRuns [] rs c.in_ok-rise.rise.items) c.as_slice-7.ensures.value c.in_ok-rise.ensures)
