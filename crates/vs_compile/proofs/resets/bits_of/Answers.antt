use Rattle.std.proofs.Common.{◌++◌, ◌<◌, ℕ, List, length, slice_get, sym, ap₂, ◌∙◌, subst}
use Rattle.std.specs.List.{All, filter}
use Rattle.vs_net.specs.Network.{flatten, is_written}
use Rattle.vs_design.specs.Designs.{bit_count}
use Rattle.vs_flat.specs.Arena.{Arena}
use Rattle.vs_flat.specs.DesignOf.{design_of}
use Rattle.vs_sets.specs.StatementParts.{Covers, statement_of}
use Rattle.vs_zero.specs.Constants.{IsFixed, branch_effects}
use Rattle.vs_assemble.specs.Flags.{HasBitsOf}
use Rattle.vs_assemble.specs.Plans.{reset_bits_or}
use Rattle.vs_compile.proofs.Setting.{are_set, can_set, none_set}
use Rattle.vs_compile.proofs.resets.bits_of.Goals as goal

pub add_written-requires-clause-within : goal.add_written-requires-clause-within
add_written-requires-clause-within c =
    let can = can_set c.footprint_law.ensures.bits c.args.typed.now c.args.footprints.now c.args.clocks.now c.requires.facts c.args.p c.requires.there c.in-Some.reset c.in-Some.ensures c.writes-writes.result.now c.writes-writes.ensures in
    subst (λ n. All (λ b. b < n) c.writes-writes.result.now) (sym c.requires.x_count) can.within

pub add_written-requires-clause-there : goal.add_written-requires-clause-there
add_written-requires-clause-there c =
    let can = can_set c.footprint_law.ensures.bits c.args.typed.now c.args.footprints.now c.args.clocks.now c.requires.facts c.args.p c.requires.there c.in-Some.reset c.in-Some.ensures c.writes-writes.result.now c.writes-writes.ensures in
    subst (λ (z : Arena). c.in-Some.reset.branch < length z.statements) (sym c.shapes.ensures) can.reset.there

pub add_written-requires-clause-fixed : goal.add_written-requires-clause-fixed
add_written-requires-clause-fixed c =
    let can = can_set c.footprint_law.ensures.bits c.args.typed.now c.args.footprints.now c.args.clocks.now c.requires.facts c.args.p c.requires.there c.in-Some.reset c.in-Some.ensures c.writes-writes.result.now c.writes-writes.ensures in
    subst (λ (z : Arena). IsFixed (statement_of z c.in-Some.reset.branch)) (sym c.shapes.ensures) can.branch.fixed

pub add_written-requires-clause-bits : goal.add_written-requires-clause-bits
add_written-requires-clause-bits c =
    let can = can_set c.footprint_law.ensures.bits c.args.typed.now c.args.footprints.now c.args.clocks.now c.requires.facts c.args.p c.requires.there c.in-Some.reset c.in-Some.ensures c.writes-writes.result.now c.writes-writes.ensures in
    subst (λ (z : Arena). Covers c.writes-writes.result.now (statement_of z c.in-Some.reset.branch)) (sym c.shapes.ensures) can.covers

pub returns-in_ok-add_written-in-Some-clause-bits : goal.returns-in_ok-add_written-in-Some-clause-bits
returns-in_ok-add_written-in-Some-clause-bits c =
    let can = can_set c.footprint_law.ensures.bits c.args.typed.now c.args.footprints.now c.args.clocks.now c.requires.facts c.args.p c.requires.there c.in-Some.reset c.in-Some.ensures c.writes-writes.result.now c.writes-writes.ensures in
    are_set c.write_law.ensures.body c.args.typed.now c.args.clocks.now.bits c.args.p c.in-Some.reset c.writes-writes.result.now _ can
    (c.in_ok-add_written-in-Some.ensures.written
    ∙ ap₂ (λ (bs : List ℕ) (z : Arena). bs ++ filter (is_written (flatten (branch_effects (statement_of z c.in-Some.reset.branch)))) c.writes-writes.result.now) c.new-bits.ensures.items c.shapes.ensures)

pub returns-in-None-clause-bits : goal.returns-in-None-clause-bits
returns-in-None-clause-bits c =
    let d = design_of c.args.typed.now in
    subst (λ (bs : List ℕ). HasBitsOf (bit_count d) bs (reset_bits_or d c.args.clocks.now.bits (slice_get d.processes c.args.p))) (sym c.new.ensures.items)
    (none_set c.args.typed.now c.args.footprints.now c.args.clocks.now c.requires.facts c.args.p c.requires.there c.in-None.ensures)
