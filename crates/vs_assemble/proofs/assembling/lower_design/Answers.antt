use Rattle.std.proofs.Common.{◌<◌, ℕ, List, ◌++◌, length, sym, ap, ◌∙◌, subst, arith}
use Rattle.std.specs.Prelude.{sum_by}
use Rattle.std.specs.List.{All}
use Rattle.vs_code.specs.Calls.{IsCall, length_of}
use Rattle.vs_program.specs.Made.{AreResetsOf, copy_shadows}
use Rattle.vs_assemble.specs.Plans.{may_store}
use Rattle.vs_assemble.specs.Runs.{AreRunsOf}
use Rattle.vs_assemble.proofs.Fitting.{plan_fits, copy_small, first_low}
use Rattle.vs_assemble.proofs.Whole.{copy_there, whole}
use Rattle.vs_assemble.proofs.assembling.lower_design.Goals as goal

pub lower_resets-requires-clause-blocks : goal.lower_resets-requires-clause-blocks
lower_resets-requires-clause-blocks g c =
    subst (λ (ps : List ℕ). All (λ p. p < length (g.T.Processes.design c.args.lowering.now).processes) ps) (sym c.as_slice-blocks.ensures.value) (plan_fits c.stores_law.ensures c.cycle_law.ensures.order (g.T.Processes.design c.args.lowering.now) c.args.clocks.now c.requires.accepted c.args.order.now c.requires.order c.args.plan.now.settling.items c.args.plan.now.blocks.items c.args.plan.now.registers.items c.args.plan.now.falling.items c.requires.plan).blocks_there

pub lower_resets-requires-clause-few : goal.lower_resets-requires-clause-few
lower_resets-requires-clause-few g c =
    let fits = (plan_fits c.stores_law.ensures c.cycle_law.ensures.order (g.T.Processes.design c.args.lowering.now) c.args.clocks.now c.requires.accepted c.args.order.now c.requires.order c.args.plan.now.settling.items c.args.plan.now.blocks.items c.args.plan.now.registers.items c.args.plan.now.falling.items c.requires.plan) in
    omega (arith, fits.few_rises, ap (sum_by (may_store (g.T.Processes.design c.args.lowering.now))) c.as_slice-blocks.ensures.value)

pub lower_each-requires-clause-processes : goal.lower_each-requires-clause-processes
lower_each-requires-clause-processes g c =
    subst (λ (ps : List ℕ). All (λ p. p < length (g.T.Processes.design c.args.lowering.now).processes) ps) (sym c.as_slice.ensures.value) (plan_fits c.stores_law.ensures c.cycle_law.ensures.order (g.T.Processes.design c.args.lowering.now) c.args.clocks.now c.requires.accepted c.args.order.now c.requires.order c.args.plan.now.settling.items c.args.plan.now.blocks.items c.args.plan.now.registers.items c.args.plan.now.falling.items c.requires.plan).settling_there

pub lower_each-requires-clause-few : goal.lower_each-requires-clause-few
lower_each-requires-clause-few g c =
    let fits = (plan_fits c.stores_law.ensures c.cycle_law.ensures.order (g.T.Processes.design c.args.lowering.now) c.args.clocks.now c.requires.accepted c.args.order.now c.requires.order c.args.plan.now.settling.items c.args.plan.now.blocks.items c.args.plan.now.registers.items c.args.plan.now.falling.items c.requires.plan) in
    omega (arith, fits.few_falls, c.in_ok-lower_resets.ensures.few, ap (sum_by (may_store (g.T.Processes.design c.args.lowering.now))) c.as_slice-blocks.ensures.value, ap (sum_by (may_store (g.T.Processes.design c.args.lowering.now))) c.as_slice.ensures.value)

pub lower_each-requires-2-clause-processes : goal.lower_each-requires-2-clause-processes
lower_each-requires-2-clause-processes g c =
    subst (λ (ps : List ℕ). All (λ p. p < length (g.T.Processes.design c.args.lowering.now).processes) ps) (sym c.as_slice-blocks.ensures.value) (plan_fits c.stores_law.ensures c.cycle_law.ensures.order (g.T.Processes.design c.args.lowering.now) c.args.clocks.now c.requires.accepted c.args.order.now c.requires.order c.args.plan.now.settling.items c.args.plan.now.blocks.items c.args.plan.now.registers.items c.args.plan.now.falling.items c.requires.plan).blocks_there

pub lower_each-requires-2-clause-few : goal.lower_each-requires-2-clause-few
lower_each-requires-2-clause-few g c =
    let fits = (plan_fits c.stores_law.ensures c.cycle_law.ensures.order (g.T.Processes.design c.args.lowering.now) c.args.clocks.now c.requires.accepted c.args.order.now c.requires.order c.args.plan.now.settling.items c.args.plan.now.blocks.items c.args.plan.now.registers.items c.args.plan.now.falling.items c.requires.plan) in
    omega (arith, fits.few_falls, fits.few_rises, c.in_ok-lower_resets.ensures.few, c.in_ok-settling.ensures.few, ap (sum_by (may_store (g.T.Processes.design c.args.lowering.now))) c.as_slice-blocks.ensures.value, ap (sum_by (may_store (g.T.Processes.design c.args.lowering.now))) c.as_slice.ensures.value)

pub lower_copy-requires-clause-call : goal.lower_copy-requires-clause-call
lower_copy-requires-clause-call g c =
    let d = g.T.Processes.design c.args.lowering.now in
    let lay = g.T.Lowering.layout c.args.lowering.now in
    let at = c.requires.accepted in
    let fits = (plan_fits c.stores_law.ensures c.cycle_law.ensures.order (g.T.Processes.design c.args.lowering.now) c.args.clocks.now c.requires.accepted c.args.order.now c.requires.order c.args.plan.now.settling.items c.args.plan.now.blocks.items c.args.plan.now.registers.items c.args.plan.now.falling.items c.requires.plan) in
    let low = first_low d lay c.args.clocks.now at c.requires.layout fits.few_registers in
    subst (λ (regs : List ℕ). All IsCall (copy_shadows lay regs)) (sym c.as_slice-2.ensures.value)
    (c.copy_law.ensures d at.names at.accepted lay c.requires.layout.layout (omega (arith, low)) c.args.plan.now.registers.items c.requires.plan.registers_are)

pub lower_copy-requires-clause-few : goal.lower_copy-requires-clause-few
lower_copy-requires-clause-few g c =
    let fits = (plan_fits c.stores_law.ensures c.cycle_law.ensures.order (g.T.Processes.design c.args.lowering.now) c.args.clocks.now c.requires.accepted c.args.order.now c.requires.order c.args.plan.now.settling.items c.args.plan.now.blocks.items c.args.plan.now.registers.items c.args.plan.now.falling.items c.requires.plan) in
    let lay = g.T.Lowering.layout c.args.lowering.now in
    let copy = copy_small c.list_law.ensures.few (g.T.Processes.design c.args.lowering.now) lay c.args.plan.now.registers.items c.requires.plan.registers_are fits.few_registers in
    omega (
      arith,
      copy,
      fits.few_falls,
      fits.few_rises,
      c.in_ok-lower_resets.ensures.few,
      c.in_ok-settling.ensures.few,
      c.in_ok-stepping.ensures.few,
      ap (sum_by (may_store (g.T.Processes.design c.args.lowering.now))) c.as_slice-blocks.ensures.value,
      ap (sum_by (may_store (g.T.Processes.design c.args.lowering.now))) c.as_slice.ensures.value,
      ap (λ (regs : List ℕ). length_of (copy_shadows lay regs)) c.as_slice-2.ensures.value,
    )

pub returns : goal.returns
returns g c =
    let d = g.T.Processes.design c.args.lowering.now in
    let lay = g.T.Lowering.layout c.args.lowering.now in
    let plan = c.args.plan.now in
    let resets = c.in_ok-lower_resets.ensures in
    let settling = c.in_ok-settling.ensures in
    let stepping = c.in_ok-stepping.ensures in
    whole d c.args.clocks.now lay plan.settling.items plan.blocks.items plan.registers.items
    (record { program = c.lower_copy.new.program; resets = record { from = 0; to = c.len.result }; settling = c.in_ok-settling.settling; blocks = c.in_ok-stepping.stepping; copy = c.in_ok-copy.copy })
    c.lower_resets.new.program c.lower_each.new.program c.lower_each-2.new.program settling.grown.0 stepping.grown.0 settling.grown.1 stepping.grown.1
    (c.in_ok-copy.ensures.calls ∙ ap (λ (regs : List ℕ). c.lower_each-2.new.program ++ copy_shadows lay regs) c.as_slice-2.ensures.value)
    (subst (λ (ps : List ℕ). AreResetsOf d c.args.clocks.now lay ps c.lower_resets.new.program) c.as_slice-blocks.ensures.value resets.calls)
    (ap (λ n. record { from = 0; to = n }) c.len.ensures)
    (subst (λ (ps : List ℕ). AreRunsOf d lay c.lower_each.new.program ps c.in_ok-settling.settling.items) c.as_slice.ensures.value settling.runs)
    (subst (λ (ps : List ℕ). AreRunsOf d lay c.lower_each-2.new.program ps c.in_ok-stepping.stepping.items) c.as_slice-blocks.ensures.value stepping.runs)
    c.in_ok-copy.ensures.run
    (stepping.slots (settling.slots resets.slots))
    (copy_there d lay plan.registers.items c.requires.layout c.requires.plan.registers_are c.requires.plan.registers_below)
