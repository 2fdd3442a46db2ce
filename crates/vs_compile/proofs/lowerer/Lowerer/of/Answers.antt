use Rattle.std.proofs.Common.{◌+◌, length, ap, arith}
use Rattle.vs_flat.specs.Arena.{Arena}
use Rattle.vs_flat.specs.DesignOf.{design_of}
use Rattle.vs_program.specs.Layouts.{sleepers}
use Rattle.vs_compile.proofs.Layouts.{table_fits}
use Rattle.vs_compile.proofs.lowerer.Lowerer.of.Goals as goal

pub shadows_of-requires-clause-below : goal.shadows_of-requires-clause-below
shadows_of-requires-clause-below c = rw c.as_slice.ensures.value c.in_ok-registers.ensures.below

pub shadows_of-requires-clause-apart : goal.shadows_of-requires-clause-apart
shadows_of-requires-clause-apart c = rw c.as_slice.ensures.value c.in_ok-registers.ensures.are.once

pub shadows_of-requires-clause-few : goal.shadows_of-requires-clause-few
shadows_of-requires-clause-few c =
    let long = ap length c.as_slice.ensures.value in
    omega (arith, long, c.in_ok-registers.ensures.few, c.bit_count-count.ensures.few)

pub invariant_of-result : goal.invariant_of-result
invariant_of-result c =
    let d = design_of c.args.facts.arena in
    let regs = c.in_ok-registers.registers.items in
    let asleep = ap (λ (a : Arena). length (sleepers (design_of a))) c.typed.ensures.same in
    table_fits c.list_law.ensures.few c.program_law.ensures.layout d c.bit_count-count.result regs c.in_ok-shadows.shadows.items (c.home.result + c.len.result + c.sleeper_count.result)
    c.in_ok-registers.ensures.are c.bit_count-count.ensures.is c.in_ok-shadows.ensures.long (rw c.as_slice.ensures.value at c.in_ok-shadows.ensures.places) (omega (arith, c.home.ensures, c.len.ensures, c.sleeper_count.ensures.is, asleep))

pub returns-clause-layout : goal.returns-clause-layout
returns-clause-layout c =
    let d = design_of c.args.facts.arena in
    let regs = c.in_ok-registers.registers.items in
    let asleep = ap (λ (a : Arena). length (sleepers (design_of a))) c.typed.ensures.same in
    (table_fits c.list_law.ensures.few c.program_law.ensures.layout d c.bit_count-count.result regs c.in_ok-shadows.shadows.items (c.home.result + c.len.result + c.sleeper_count.result)
    c.in_ok-registers.ensures.are c.bit_count-count.ensures.is c.in_ok-shadows.ensures.long (rw c.as_slice.ensures.value at c.in_ok-shadows.ensures.places) (omega (arith, c.home.ensures, c.len.ensures, c.sleeper_count.ensures.is, asleep))).layout
