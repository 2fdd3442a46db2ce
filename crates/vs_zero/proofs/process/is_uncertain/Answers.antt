use Rattle.std.proofs.Common.{◌≡◌, ◌<◌, ℕ, Bool, true, false, not, ◌&&◌, List, Some, length, refl, sym, ap, ◌∙◌, subst}
use Rattle.std.specs.Prelude.{slice_get, All}
use Rattle.std.specs.List.{list_any}
use Rattle.vs_design.specs.Designs.{bit_count}
use Rattle.vs_design.specs.Footprints.{waits_of}
use Rattle.vs_design.specs.Sleepers.{is_sleeping}
use Rattle.vs_design.specs.TimeZero.{Families, is_quiet, is_uncertain, wakes}
use Rattle.vs_flat.specs.Arena.{Arena}
use Rattle.vs_flat.specs.DesignOf.{arena_signals, design_of}
use Rattle.vs_flat.specs.Trees.{signal_at}
use Rattle.vs_flat.specs.declared.processes.Kind.TheVariants as K
use Rattle.vs_reads.specs.Footprint.{footprints_of, waits_at, writes_at}
use Rattle.vs_reads.specs.Laws.{HasBitsOf}
use Rattle.vs_sets.specs.Completing.{done}
use Rattle.vs_sets.specs.StatementParts.{statement_of}
use Rattle.vs_sets.specs.Tables.{family_of}
use Rattle.vs_zero.specs.Blocks.{IsBlockOf}
use Rattle.vs_flat.specs.Events.{is_edge_event}
use Rattle.vs_reads.proofs.ByKind.{kind_in, kind_is}
use Rattle.vs_zero.proofs.Settling.{all_below, assign_certain, block_by, block_is, both, by_edge, by_quiet, by_wake, edges_same, is_still_block, lenient_is, wakes_by}
use Rattle.vs_zero.proofs.process.is_uncertain.Goals as goal

pub returns-in-Assign-clause-uncertain : goal.returns-in-Assign-clause-uncertain
returns-in-Assign-clause-uncertain c = λ x e.
    let is = subst (λ (b : Arena). slice_get b.processes c.args.p ≡ Some c.process.result.now) c.flat.ensures.same c.process.ensures in
    assign_certain c.trees_law.ensures.processes c.args.typed.now c.args.p c.process.result.now c.in-Assign.target c.in-Assign.expr c.in-Assign.port is c.in-Assign.is (both (family_of c.args.early.now) (family_of c.args.late.now)) x e

pub returns-then-has_edge-clause-uncertain : goal.returns-then-has_edge-clause-uncertain
returns-then-has_edge-clause-uncertain c = λ x e.
    let is = subst (λ (b : Arena). slice_get b.processes c.args.p ≡ Some c.process.result.now) c.flat.ensures.same c.process.ensures in
    let a = c.args.typed.now in
    let d = design_of a in
    let f : Families = both (family_of c.args.early.now) (family_of c.args.late.now) in
    let st = statement_of a c.in-Block.statement in
    by_edge c.has_edge.result (is_sleeping d x) (is_still_block st f.early) (wakes f x) (is_uncertain d f x)
    (block_by c.trees_law.ensures.processes a c.args.p c.process.result.now c.in-Block.star c.in-Block.events c.in-Block.statement is c.in-Block.is f x e c.has_edge.result (is_sleeping d x) (is_still_block st f.early) (wakes f x) (c.has_edge.ensures ∙ ap (list_any is_edge_event) c.as_slice.ensures) refl refl refl)
    c.if-has_edge.true

waits_below : (n m : ℕ) (bits waits all : List ℕ) → bits ≡ waits → m ≡ n → HasBitsOf n waits all → All (λ b. b < m) bits
waits_below n m bits waits all e k h = subst (λ i. All (λ b. b < i) bits) (sym k) (all_below n bits all (subst (λ (bs : List ℕ). HasBitsOf n bs all) (sym e) h))

pub wakes-requires-clause-early : goal.wakes-requires-clause-early
wakes-requires-clause-early c =
    let is = subst (λ (b : Arena). slice_get b.processes c.args.p ≡ Some c.process.result.now) c.flat.ensures.same c.process.ensures in
    let a = c.args.typed.now in
    let k = K.Block c.in-Block.star c.in-Block.events c.in-Block.statement in
    let x = kind_in a c.process.result.now.at k in
    let h = (c.footprint_law.ensures.bits (design_of a) c.flat.ensures.lawful.design c.args.p x (kind_is c.trees_law.ensures.processes a c.args.p c.process.result.now k is c.in-Block.is)).waits in
    waits_below (bit_count (design_of a)) (length c.args.early.now) c.waits.result.now (waits_at (footprints_of (design_of a)) c.args.p) (waits_of x) (c.waits.ensures ∙ ap (λ fs. waits_at fs c.args.p) c.requires.footprints) c.requires.early h

pub wakes-requires-clause-late : goal.wakes-requires-clause-late
wakes-requires-clause-late c =
    let is = subst (λ (b : Arena). slice_get b.processes c.args.p ≡ Some c.process.result.now) c.flat.ensures.same c.process.ensures in
    let a = c.args.typed.now in
    let k = K.Block c.in-Block.star c.in-Block.events c.in-Block.statement in
    let x = kind_in a c.process.result.now.at k in
    let h = (c.footprint_law.ensures.bits (design_of a) c.flat.ensures.lawful.design c.args.p x (kind_is c.trees_law.ensures.processes a c.args.p c.process.result.now k is c.in-Block.is)).waits in
    waits_below (bit_count (design_of a)) (length c.args.late.now) c.waits.result.now (waits_at (footprints_of (design_of a)) c.args.p) (waits_of x) (c.waits.ensures ∙ ap (λ fs. waits_at fs c.args.p) c.requires.footprints) c.requires.late h

pub returns-then-wakes-clause-uncertain : goal.returns-then-wakes-clause-uncertain
returns-then-wakes-clause-uncertain c = λ x e.
    let is = subst (λ (b : Arena). slice_get b.processes c.args.p ≡ Some c.process.result.now) c.flat.ensures.same c.process.ensures in
    let a = c.args.typed.now in
    let d = design_of a in
    let f : Families = both (family_of c.args.early.now) (family_of c.args.late.now) in
    let st = statement_of a c.in-Block.statement in
    let w = c.wakes.ensures ∙ wakes_by c.footprint_law.ensures.bits a c.flat.ensures.lawful c.args.p x e c.waits.result.now (c.waits.ensures ∙ ap (λ fs. waits_at fs c.args.p) c.requires.footprints) f in
    by_wake c.has_edge.result (is_sleeping d x) (is_still_block st f.early) c.wakes.result (is_uncertain d f x)
    (block_by c.trees_law.ensures.processes a c.args.p c.process.result.now c.in-Block.star c.in-Block.events c.in-Block.statement is c.in-Block.is f x e c.has_edge.result (is_sleeping d x) (is_still_block st f.early) c.wakes.result (c.has_edge.ensures ∙ ap (list_any is_edge_event) c.as_slice.ensures) refl refl w)
    c.if-wakes.true

pub is_lenient-requires : goal.is_lenient-requires
is_lenient-requires c = subst (λ n. c.args.p < n) (sym c.requires.cases.sound.processes) c.requires.there

pub returns-then-is_lenient-clause-uncertain : goal.returns-then-is_lenient-clause-uncertain
returns-then-is_lenient-clause-uncertain c = λ x e.
    let is = subst (λ (b : Arena). slice_get b.processes c.args.p ≡ Some c.process.result.now) c.flat.ensures.same c.process.ensures in
    let a = c.args.typed.now in
    let d = design_of a in
    let f : Families = both (family_of c.args.early.now) (family_of c.args.late.now) in
    let st = statement_of a c.in-Block.statement in
    let clocked = edges_same (signal_at (arena_signals a)) c.in-Block.events ∙ sym (ap (list_any is_edge_event) c.as_slice.ensures) ∙ sym c.has_edge.ensures ∙ c.if-has_edge.false in
    let w = c.wakes.ensures ∙ wakes_by c.footprint_law.ensures.bits a c.flat.ensures.lawful c.args.p x e c.waits.result.now (c.waits.ensures ∙ ap (λ fs. waits_at fs c.args.p) c.requires.footprints) f in
    let lenient = lenient_is c.trees_law.ensures.processes a c.args.p c.process.result.now c.in-Block.star c.in-Block.events c.in-Block.statement is c.in-Block.is clocked c.is_lenient.result x e (c.is_lenient.ensures ∙ (c.requires.cases.each c.args.p c.requires.there).mark x e) in
    let q : false ≡ is_still_block st f.early = ap (λ (t : Bool). not t && is_quiet st f.early) (sym c.if-is_lenient.true ∙ lenient) in
    by_quiet c.has_edge.result c.sleeps.result false c.wakes.result (is_uncertain d f x)
    (block_by c.trees_law.ensures.processes a c.args.p c.process.result.now c.in-Block.star c.in-Block.events c.in-Block.statement is c.in-Block.is f x e c.has_edge.result c.sleeps.result false c.wakes.result (c.has_edge.ensures ∙ ap (list_any is_edge_event) c.as_slice.ensures) (c.sleeps.ensures x e) q w)
    c.if-has_edge.false c.if-sleeps.false c.if-wakes.false

pub is_quiet-requires-clause-block : goal.is_quiet-requires-clause-block
is_quiet-requires-clause-block c =
    let is = subst (λ (b : Arena). slice_get b.processes c.args.p ≡ Some c.process.result.now) c.flat.ensures.same c.process.ensures in
    let a = c.args.typed.now in
    let clocked = edges_same (signal_at (arena_signals a)) c.in-Block.events ∙ sym (ap (list_any is_edge_event) c.as_slice.ensures) ∙ sym c.has_edge.ensures ∙ c.if-has_edge.false in
    subst (λ (b : Arena). IsBlockOf b c.in-Block.statement c.writes-bits.result.now) (sym c.shapes-shapes.ensures)
    (block_is c.within_law.ensures.statements c.trees_law.ensures.processes c.names_law.ensures.processes c.fits_law.ensures.fits c.footprint_law.ensures.bits a c.flat.ensures.lawful c.flat.ensures.fits c.requires.blocks c.args.p c.process.result.now c.in-Block.star c.in-Block.events c.in-Block.statement is c.in-Block.is
    clocked c.writes-bits.result.now (c.writes-bits.ensures ∙ ap (λ fs. writes_at fs c.args.p) c.requires.footprints))

pub is_quiet-requires-clause-defaults : goal.is_quiet-requires-clause-defaults
is_quiet-requires-clause-defaults c on = absurd (no (sym on ∙ c.defaults-written.ensures.complete))
  where
    no : true ≡ false → ⊥
    no e = cc

pub returns-in_ok-quiet-in-Block-clause-uncertain : goal.returns-in_ok-quiet-in-Block-clause-uncertain
returns-in_ok-quiet-in-Block-clause-uncertain c = λ x e.
    let is = subst (λ (b : Arena). slice_get b.processes c.args.p ≡ Some c.process.result.now) c.flat.ensures.same c.process.ensures in
    let a = c.args.typed.now in
    let d = design_of a in
    let f : Families = both (family_of c.args.early.now) (family_of c.args.late.now) in
    let st = statement_of a c.in-Block.statement in
    let w = c.wakes.ensures ∙ wakes_by c.footprint_law.ensures.bits a c.flat.ensures.lawful c.args.p x e c.waits.result.now (c.waits.ensures ∙ ap (λ fs. waits_at fs c.args.p) c.requires.footprints) f in
    let clocked = edges_same (signal_at (arena_signals a)) c.in-Block.events ∙ sym (ap (list_any is_edge_event) c.as_slice.ensures) ∙ sym c.has_edge.ensures ∙ c.if-has_edge.false in
    let lenient = lenient_is c.trees_law.ensures.processes a c.args.p c.process.result.now c.in-Block.star c.in-Block.events c.in-Block.statement is c.in-Block.is clocked c.is_lenient.result x e (c.is_lenient.ensures ∙ (c.requires.cases.each c.args.p c.requires.there).mark x e) in
    let q = c.in_ok-quiet-in-Block.ensures.quiet ∙ ap (λ (b : Arena). is_quiet (done c.defaults-written.result.complete b c.in-Block.statement) f.early) c.shapes-shapes.ensures
    ∙ ap (λ (t : Bool). is_quiet (done t a c.in-Block.statement) f.early) c.defaults-written.ensures.complete ∙ ap (λ (t : Bool). not t && is_quiet st f.early) (sym c.if-is_lenient.false ∙ lenient) in
    by_quiet c.has_edge.result c.sleeps.result c.in_ok-quiet-in-Block.quiet c.wakes.result (is_uncertain d f x)
    (block_by c.trees_law.ensures.processes a c.args.p c.process.result.now c.in-Block.star c.in-Block.events c.in-Block.statement is c.in-Block.is f x e c.has_edge.result c.sleeps.result c.in_ok-quiet-in-Block.quiet c.wakes.result (c.has_edge.ensures ∙ ap (list_any is_edge_event) c.as_slice.ensures) (c.sleeps.ensures x e) q w)
    c.if-has_edge.false c.if-sleeps.false c.if-wakes.false
