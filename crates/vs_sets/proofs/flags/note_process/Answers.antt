use Rattle.std.proofs.Common.{◌<◌, List, ℕ, length, map, true, false, ap, sym, ◌∙◌, subst}
use Rattle.std.specs.Prelude.{All}
use Rattle.vs_flat.specs.Lawful.{IsLawful}
use Rattle.vs_flat.specs.Trees.{signal_at}
use Rattle.vs_flat.specs.DesignOf.{arena_signals, design_of, event_of}
use Rattle.vs_reads.specs.Footprint.{writes_at}
use Rattle.vs_reads.proofs.FitKinds.{edges_of}
use Rattle.vs_design.specs.Footprints.{contains}
use Rattle.vs_sets.specs.StatementParts.{statement_of}
use Rattle.vs_sets.specs.Twice.{Adds, is_twice}
use Rattle.vs_sets.proofs.FlagSteps.{Marked, all_below, assign_noted, clocked_noted, combinational_noted, twice_below, found_kind}
use Rattle.vs_sets.proofs.flags.note_process.Goals as goal

pub mark-requires : goal.mark-requires
mark-requires c =
    let a = c.args.shapes.now in
    let d = design_of a in
    let lawful = subst IsLawful c.flat.ensures.same c.flat.ensures.lawful in
    let found = found_kind c.trees_law.ensures.processes a c.args.p c.fit_process.result.now _ c.fit_process.ensures.is c.in-Block.is in
    let has = (c.footprint_law.ensures.bits d lawful.design c.args.p _ found).writes in
    let s = statement_of a c.in-Block.statement in
    let adds = subst (λ (xs : List ℕ). Adds (is_twice s) xs c.push_twice.new.out.items) c.new-twice.ensures.items c.in_ok-push_twice-in-Block.ensures in
    subst (λ (bs : List ℕ). All (λ b. b < length c.args.flags.now) bs) (sym c.as_slice-then-has_edge.ensures.value)
    (twice_below s c.push_twice.new.out.items (length c.args.flags.now) adds (λ b k. subst (λ m. b < m) (sym c.requires.many) (has.below b (has.same b ∙ k))))

pub mark-requires-else-has_edge : goal.mark-requires-else-has_edge
mark-requires-else-has_edge c =
    let a = c.args.shapes.now in
    let d = design_of a in
    let lawful = subst IsLawful c.flat.ensures.same c.flat.ensures.lawful in
    let found = found_kind c.trees_law.ensures.processes a c.args.p c.fit_process.result.now _ c.fit_process.ensures.is c.in-Block.is in
    let has = (c.footprint_law.ensures.bits d lawful.design c.args.p _ found).writes in
    let bits = c.writes.ensures ∙ ap (λ fs. writes_at fs c.args.p) c.requires.footprints in
    all_below c.writes.result.now (length c.args.flags.now) (λ b k. subst (λ m. b < m) (sym c.requires.many) (has.below b (ap (λ bs. contains bs b) (sym bits) ∙ k)))

pub returns-in-Assign : goal.returns-in-Assign
returns-in-Assign c =
    let a = c.args.shapes.now in
    let found = found_kind c.trees_law.ensures.processes a c.args.p c.fit_process.result.now _ c.fit_process.ensures.is c.in-Assign.is in
    assign_noted (design_of a) c.args.p _ _ _ _ _ c.args.flags.now found c.requires.so_far

pub returns-in_ok-push_twice-in-Block : goal.returns-in_ok-push_twice-in-Block
returns-in_ok-push_twice-in-Block c =
    let a = c.args.shapes.now in
    let found = found_kind c.trees_law.ensures.processes a c.args.p c.fit_process.result.now _ c.fit_process.ensures.is c.in-Block.is in
    let s = statement_of a c.in-Block.statement in
    let adds = subst (λ (xs : List ℕ). Adds (is_twice s) xs c.push_twice.new.out.items) c.new-twice.ensures.items c.in_ok-push_twice-in-Block.ensures in
    let edge = edges_of (signal_at (arena_signals a)) c.in-Block.events c.as_slice.result.now c.has_edge.result true c.as_slice.ensures c.has_edge.ensures c.if-has_edge.true in
    clocked_noted (design_of a) c.args.p c.fit_process.result.now.at c.in-Block.star (map (event_of (signal_at (arena_signals a))) c.in-Block.events) s c.args.flags.now c.mark.new.flags c.push_twice.new.out.items found edge adds
    (subst (λ (bs : List ℕ). Marked bs false c.args.flags.now c.mark.new.flags) c.as_slice-then-has_edge.ensures.value c.mark.ensures) c.requires.so_far

pub returns-else-has_edge : goal.returns-else-has_edge
returns-else-has_edge c =
    let a = c.args.shapes.now in
    let d = design_of a in
    let lawful = subst IsLawful c.flat.ensures.same c.flat.ensures.lawful in
    let found = found_kind c.trees_law.ensures.processes a c.args.p c.fit_process.result.now _ c.fit_process.ensures.is c.in-Block.is in
    let has = (c.footprint_law.ensures.bits d lawful.design c.args.p _ found).writes in
    let bits = c.writes.ensures ∙ ap (λ fs. writes_at fs c.args.p) c.requires.footprints in
    let level = edges_of (signal_at (arena_signals a)) c.in-Block.events c.as_slice.result.now c.has_edge.result false c.as_slice.ensures c.has_edge.ensures c.if-has_edge.false in
    combinational_noted d c.args.p c.fit_process.result.now.at c.in-Block.star (map (event_of (signal_at (arena_signals a))) c.in-Block.events) (statement_of a c.in-Block.statement) c.args.flags.now c.mark-else-has_edge.new.flags c.writes.result.now
    found level (λ b. ap (λ bs. contains bs b) bits ∙ has.same b) c.mark-else-has_edge.ensures c.requires.so_far
