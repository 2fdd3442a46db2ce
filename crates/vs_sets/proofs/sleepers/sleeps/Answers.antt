use Rattle.std.proofs.Common.{◌≡◌, ◌<◌, length, map, not, true, false, ap, sym, ◌∙◌, subst}
use Rattle.std.specs.Prelude.{◌&&◌}
use Rattle.vs_design.specs.Footprints.{contains}
use Rattle.vs_design.specs.Sleepers.{is_sleeping}
use Rattle.vs_flat.specs.Lawful.{IsLawful}
use Rattle.vs_flat.specs.Trees.{signal_at}
use Rattle.vs_flat.specs.DesignOf.{arena_signals, design_of, event_of}
use Rattle.vs_reads.specs.Footprint.{writes_at, waits_at}
use Rattle.vs_reads.proofs.FitKinds.{edges_of}
use Rattle.vs_design.specs.Within.{statement_within}
use Rattle.vs_sets.specs.StatementParts.{statement_of}
use Rattle.vs_sets.proofs.Limits.{block_within}
use Rattle.vs_sets.proofs.FlagSteps.{all_below, found_kind, clocked_awake, block_sleeps, unset_awake, told_of}
use Rattle.vs_sets.proofs.sleepers.sleeps.Goals as goal

pub are_set-requires : goal.are_set-requires
are_set-requires c =
    let a = c.args.shapes.now in
    let d = design_of a in
    let lawful = subst IsLawful c.flat.ensures.same c.flat.ensures.lawful in
    let found = found_kind c.trees_law.ensures.processes a c.args.p c.fit_process.result.now _ c.fit_process.ensures.is c.in-Block.is in
    let has = (c.footprint_law.ensures.bits d lawful.design c.args.p _ found).waits in
    let bits = c.waits.ensures ∙ ap (λ fs. waits_at fs c.args.p) c.requires.footprints in
    all_below c.waits.result.now (length c.args.still.now) (λ b k. subst (λ m. b < m) (sym c.requires.many) (has.below b (ap (λ bs. contains bs b) (sym bits) ∙ k)))

pub leaves_x-requires-clause-names : goal.leaves_x-requires-clause-names
leaves_x-requires-clause-names c =
    let a = c.args.shapes.now in
    let d = design_of a in
    let lawful = subst IsLawful c.flat.ensures.same c.flat.ensures.lawful in
    let found = found_kind c.trees_law.ensures.processes a c.args.p c.fit_process.result.now _ c.fit_process.ensures.is c.in-Block.is in
    subst (λ n. statement_within n (statement_of a c.in-Block.statement) ≡ true) (sym c.requires.table) (block_within c.within_law.ensures.statements d lawful.design c.args.p _ _ _ _ found)

pub leaves_x-requires-clause-within : goal.leaves_x-requires-clause-within
leaves_x-requires-clause-within c =
    let a = c.args.shapes.now in
    let d = design_of a in
    let lawful = subst IsLawful c.flat.ensures.same c.flat.ensures.lawful in
    let found = found_kind c.trees_law.ensures.processes a c.args.p c.fit_process.result.now _ c.fit_process.ensures.is c.in-Block.is in
    let has = (c.footprint_law.ensures.bits d lawful.design c.args.p _ found).writes in
    let bits = c.writes.ensures ∙ ap (λ fs. writes_at fs c.args.p) c.requires.footprints in
    all_below c.writes.result.now (length c.args.table.now) (λ b k. subst (λ m. b < m) (sym c.requires.table) (has.below b (ap (λ bs. contains bs b) (sym bits) ∙ k)))

pub leaves_x-requires-clause-covers : goal.leaves_x-requires-clause-covers
leaves_x-requires-clause-covers c b k =
    let a = c.args.shapes.now in
    let d = design_of a in
    let lawful = subst IsLawful c.flat.ensures.same c.flat.ensures.lawful in
    let found = found_kind c.trees_law.ensures.processes a c.args.p c.fit_process.result.now _ c.fit_process.ensures.is c.in-Block.is in
    let has = (c.footprint_law.ensures.bits d lawful.design c.args.p _ found).writes in
    let bits = c.writes.ensures ∙ ap (λ fs. writes_at fs c.args.p) c.requires.footprints in
    ap (λ bs. contains bs b) bits ∙ has.same b ∙ k

pub returns-then-has_edge-clause-sleeps : goal.returns-then-has_edge-clause-sleeps
returns-then-has_edge-clause-sleeps c x h =
    let a = c.args.shapes.now in
    let found = found_kind c.trees_law.ensures.processes a c.args.p c.fit_process.result.now _ c.fit_process.ensures.is c.in-Block.is in
    let edge = edges_of (signal_at (arena_signals a)) c.in-Block.events c.as_slice.result.now c.has_edge.result true c.as_slice.ensures c.has_edge.ensures c.if-has_edge.true in
    told_of (is_sleeping (design_of a)) (design_of a).processes c.args.p _ x false found h
    (sym (clocked_awake (design_of a) c.fit_process.result.now.at c.in-Block.star (map (event_of (signal_at (arena_signals a))) c.in-Block.events) (statement_of a c.in-Block.statement) edge))

pub returns-then-not-are_set-clause-sleeps : goal.returns-then-not-are_set-clause-sleeps
returns-then-not-are_set-clause-sleeps c x h =
    let a = c.args.shapes.now in
    let d = design_of a in
    let lawful = subst IsLawful c.flat.ensures.same c.flat.ensures.lawful in
    let found = found_kind c.trees_law.ensures.processes a c.args.p c.fit_process.result.now _ c.fit_process.ensures.is c.in-Block.is in
    let has = (c.footprint_law.ensures.bits d lawful.design c.args.p _ found).waits in
    let bits = c.waits.ensures ∙ ap (λ fs. waits_at fs c.args.p) c.requires.footprints in
    let level = edges_of (signal_at (arena_signals a)) c.in-Block.events c.as_slice.result.now c.has_edge.result false c.as_slice.ensures c.has_edge.ensures c.if-has_edge.false in
    told_of (is_sleeping d) d.processes c.args.p _ x false found h
    (sym (unset_awake d c.fit_process.result.now.at c.in-Block.star (map (event_of (signal_at (arena_signals a))) c.in-Block.events) (statement_of a c.in-Block.statement) c.args.still.now c.waits.result.now c.are_set.result level c.requires.still
    (λ b. ap (λ bs. contains bs b) bits ∙ has.same b) c.are_set.ensures c.if-not-are_set.true))

pub returns-in_ok-quiet-in-Block-clause-sleeps : goal.returns-in_ok-quiet-in-Block-clause-sleeps
returns-in_ok-quiet-in-Block-clause-sleeps c x h =
    let a = c.args.shapes.now in
    let d = design_of a in
    let lawful = subst IsLawful c.flat.ensures.same c.flat.ensures.lawful in
    let found = found_kind c.trees_law.ensures.processes a c.args.p c.fit_process.result.now _ c.fit_process.ensures.is c.in-Block.is in
    let has = (c.footprint_law.ensures.bits d lawful.design c.args.p _ found).waits in
    let bits = c.waits.ensures ∙ ap (λ fs. waits_at fs c.args.p) c.requires.footprints in
    let level = edges_of (signal_at (arena_signals a)) c.in-Block.events c.as_slice.result.now c.has_edge.result false c.as_slice.ensures c.has_edge.ensures c.if-has_edge.false in
    told_of (is_sleeping d) d.processes c.args.p _ x (not c.in_ok-quiet-in-Block.quiet) found h
    (sym (block_sleeps d c.fit_process.result.now.at c.in-Block.star (map (event_of (signal_at (arena_signals a))) c.in-Block.events) (statement_of a c.in-Block.statement) c.args.still.now c.waits.result.now c.are_set.result c.in_ok-quiet-in-Block.quiet level c.requires.still
    (λ b. ap (λ bs. contains bs b) bits ∙ has.same b) c.are_set.ensures c.in_ok-quiet-in-Block.ensures.stays ∙ ap (λ k. k && not c.in_ok-quiet-in-Block.quiet) c.if-not-are_set.false))
