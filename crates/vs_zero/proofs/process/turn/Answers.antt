use Rattle.std.proofs.Common.{◌≡◌, ◌<◌, ℕ, Bool, List, Option, Result, Ok, Err, Some, true, false, length, sym, ap, ◌∙◌, subst}
use Rattle.std.specs.Prelude.{slice_get, slice_index_or, OnOk}
use Rattle.vs_design.specs.Within.{names_within, target_within}
use Rattle.vs_design.specs.Fits.{fits_target}
use Rattle.vs_design.specs.Footprints.{contains, statement_bits}
use Rattle.vs_design.specs.LiftedBodies.{assign_sets}
use Rattle.vs_design.specs.Selects.{is_lenient_block}
use Rattle.vs_design.specs.Sleepers.{is_sleeping}
use Rattle.vs_design.specs.TimeZero.{block_sets, early_end, is_quiet, late_end}
use Rattle.vs_flat.specs.Arena.{Arena}
use Rattle.vs_flat.specs.DesignOf.{design_of}
use Rattle.vs_flat.specs.Trees.{target_tree}
use Rattle.vs_flat.specs.declared.processes.Event.{Event}
use Rattle.vs_flat.specs.declared.processes.Process.{Process}
use Rattle.vs_flat.specs.declared.processes.Kind.TheVariants as K
use Rattle.vs_reads.specs.Footprint.{writes_at}
use Rattle.vs_sets.specs.TargetsOf.{IsTarget}
use Rattle.vs_sets.specs.Nodes.{tree_of}
use Rattle.vs_sets.specs.Completing.{AreDefaults, default_in, done}
use Rattle.vs_full.specs.Found.{Found, AreAllNoted}
use Rattle.vs_sets.specs.Tables.{family_of}
use Rattle.vs_zero.specs.Blocks.{IsBlockOf}
use Rattle.vs_zero.proofs.ByKind.{assign_target, names_within_design, process_fits, target_within_design}
use Rattle.vs_reads.proofs.ByKind.{target_there, expr_there}
use Rattle.vs_sets.proofs.Fit.{and_left, and_right}
use Rattle.vs_zero.proofs.Settling.{assigned_early, assigned_late, block_is, unclocked, ran_early, ran_late}
use Rattle.vs_zero.proofs.process.turn.Goals as goal

on_ok : {V W : Type 0} {P Q : Type 0} (r : Result V W) → OnOk r P → (P → Q) → OnOk r Q
on_ok (Ok v) h k = k h
on_ok (Err e) h k = h

always : {V W : Type 0} {P : Type 0} (r : Result V W) → P → OnOk r P
always (Ok v) h = h
always (Err e) h = tt

pub assign-requires-clause-target_within : goal.assign-requires-clause-target_within
assign-requires-clause-target_within c =
    let is = subst (λ (b : Arena). slice_get b.processes c.args.p ≡ Some c.process.result.now) c.flat.ensures.same c.process.ensures in
    let a = c.args.typed.now in
    let own = target_within_design c.within_law.ensures.targets c.trees_law.ensures.processes a c.flat.ensures.lawful c.args.p c.process.result.now c.in-Assign.target c.in-Assign.expr c.in-Assign.port is c.in-Assign.is in
    subst (λ (b : Arena). target_within (length c.args.early.now) (target_tree (tree_of b c.in-Assign.target)) ≡ true) (sym c.shapes-shapes.ensures) (subst (λ n. target_within n (target_tree (tree_of a c.in-Assign.target)) ≡ true) (sym c.requires.early) own)

pub assign-requires-clause-within : goal.assign-requires-clause-within
assign-requires-clause-within c =
    let is = subst (λ (b : Arena). slice_get b.processes c.args.p ≡ Some c.process.result.now) c.flat.ensures.same c.process.ensures in
    let a = c.args.typed.now in
    let own = names_within_design c.within_law.ensures.expressions c.trees_law.ensures.processes a c.flat.ensures.lawful c.args.p c.process.result.now c.in-Assign.target c.in-Assign.expr c.in-Assign.port is c.in-Assign.is in
    subst (λ (b : Arena). names_within (length c.args.early.now) (tree_of b c.in-Assign.expr) ≡ true) (sym c.shapes-shapes.ensures) (subst (λ n. names_within n (tree_of a c.in-Assign.expr) ≡ true) (sym c.requires.early) own)

pub assign-requires-in-Assign-clause-target_within : goal.assign-requires-in-Assign-clause-target_within
assign-requires-in-Assign-clause-target_within c =
    let is = subst (λ (b : Arena). slice_get b.processes c.args.p ≡ Some c.process.result.now) c.flat.ensures.same c.process.ensures in
    let a = c.args.typed.now in
    let own = target_within_design c.within_law.ensures.targets c.trees_law.ensures.processes a c.flat.ensures.lawful c.args.p c.process.result.now c.in-Assign.target c.in-Assign.expr c.in-Assign.port is c.in-Assign.is in
    subst (λ (b : Arena). target_within (length c.args.late.now) (target_tree (tree_of b c.in-Assign.target)) ≡ true) (sym c.shapes-shapes.ensures) (subst (λ n. target_within n (target_tree (tree_of a c.in-Assign.target)) ≡ true) (sym c.requires.late) own)

pub assign-requires-in-Assign-clause-within : goal.assign-requires-in-Assign-clause-within
assign-requires-in-Assign-clause-within c =
    let is = subst (λ (b : Arena). slice_get b.processes c.args.p ≡ Some c.process.result.now) c.flat.ensures.same c.process.ensures in
    let a = c.args.typed.now in
    let own = names_within_design c.within_law.ensures.expressions c.trees_law.ensures.processes a c.flat.ensures.lawful c.args.p c.process.result.now c.in-Assign.target c.in-Assign.expr c.in-Assign.port is c.in-Assign.is in
    subst (λ (b : Arena). names_within (length c.args.late.now) (tree_of b c.in-Assign.expr) ≡ true) (sym c.shapes-shapes.ensures) (subst (λ n. names_within n (tree_of a c.in-Assign.expr) ≡ true) (sym c.requires.late) own)

pub assign-requires-clause-target_there : goal.assign-requires-clause-target_there
assign-requires-clause-target_there c =
    let is = subst (λ (b : Arena). slice_get b.processes c.args.p ≡ Some c.process.result.now) c.flat.ensures.same c.process.ensures in
    subst (λ (b : Arena). c.in-Assign.target < length b.nodes) (sym c.shapes-shapes.ensures) (target_there c.names_law.ensures.processes c.args.typed.now c.flat.ensures.lawful.names c.args.p c.process.result.now c.in-Assign.target c.in-Assign.expr c.in-Assign.port is c.in-Assign.is)

pub assign-requires-clause-there : goal.assign-requires-clause-there
assign-requires-clause-there c =
    let is = subst (λ (b : Arena). slice_get b.processes c.args.p ≡ Some c.process.result.now) c.flat.ensures.same c.process.ensures in
    subst (λ (b : Arena). c.in-Assign.expr < length b.nodes) (sym c.shapes-shapes.ensures) (expr_there c.names_law.ensures.processes c.args.typed.now c.flat.ensures.lawful.names c.args.p c.process.result.now c.in-Assign.target c.in-Assign.expr c.in-Assign.port is c.in-Assign.is)

pub assign-requires-clause-target : goal.assign-requires-clause-target
assign-requires-clause-target c =
    let is = subst (λ (b : Arena). slice_get b.processes c.args.p ≡ Some c.process.result.now) c.flat.ensures.same c.process.ensures in
    let fits = process_fits c.fits_law.ensures.fits c.trees_law.ensures.processes c.args.typed.now c.flat.ensures.lawful c.flat.ensures.fits c.args.p c.process.result.now (K.Assign c.in-Assign.target c.in-Assign.expr c.in-Assign.port) is c.in-Assign.is in
    subst (λ (b : Arena). IsTarget (tree_of b c.in-Assign.target)) (sym c.shapes-shapes.ensures)
    (record { is = assign_target c.lawful_law.ensures.assign_targets c.args.typed.now c.flat.ensures.lawful c.args.p c.process.result.now c.in-Assign.target c.in-Assign.expr c.in-Assign.port is c.in-Assign.is; fits = and_left (fits_target (target_tree (tree_of c.args.typed.now c.in-Assign.target))) _ fits })

pub assign-requires-clause-fit : goal.assign-requires-clause-fit
assign-requires-clause-fit c =
    let is = subst (λ (b : Arena). slice_get b.processes c.args.p ≡ Some c.process.result.now) c.flat.ensures.same c.process.ensures in
    let fits = process_fits c.fits_law.ensures.fits c.trees_law.ensures.processes c.args.typed.now c.flat.ensures.lawful c.flat.ensures.fits c.args.p c.process.result.now (K.Assign c.in-Assign.target c.in-Assign.expr c.in-Assign.port) is c.in-Assign.is in
    subst (λ (b : Arena). Rattle.vs_design.specs.Fits.is_fit (tree_of b c.in-Assign.expr) ≡ true) (sym c.shapes-shapes.ensures) (and_right (fits_target (target_tree (tree_of c.args.typed.now c.in-Assign.target))) _ fits)

pub assign-requires-in-Assign-clause-target_there : goal.assign-requires-in-Assign-clause-target_there
assign-requires-in-Assign-clause-target_there c =
    let is = subst (λ (b : Arena). slice_get b.processes c.args.p ≡ Some c.process.result.now) c.flat.ensures.same c.process.ensures in
    subst (λ (b : Arena). c.in-Assign.target < length b.nodes) (sym c.shapes-shapes.ensures) (target_there c.names_law.ensures.processes c.args.typed.now c.flat.ensures.lawful.names c.args.p c.process.result.now c.in-Assign.target c.in-Assign.expr c.in-Assign.port is c.in-Assign.is)

pub assign-requires-in-Assign-clause-there : goal.assign-requires-in-Assign-clause-there
assign-requires-in-Assign-clause-there c =
    let is = subst (λ (b : Arena). slice_get b.processes c.args.p ≡ Some c.process.result.now) c.flat.ensures.same c.process.ensures in
    subst (λ (b : Arena). c.in-Assign.expr < length b.nodes) (sym c.shapes-shapes.ensures) (expr_there c.names_law.ensures.processes c.args.typed.now c.flat.ensures.lawful.names c.args.p c.process.result.now c.in-Assign.target c.in-Assign.expr c.in-Assign.port is c.in-Assign.is)

pub assign-requires-in-Assign-clause-target : goal.assign-requires-in-Assign-clause-target
assign-requires-in-Assign-clause-target c =
    let is = subst (λ (b : Arena). slice_get b.processes c.args.p ≡ Some c.process.result.now) c.flat.ensures.same c.process.ensures in
    let fits = process_fits c.fits_law.ensures.fits c.trees_law.ensures.processes c.args.typed.now c.flat.ensures.lawful c.flat.ensures.fits c.args.p c.process.result.now (K.Assign c.in-Assign.target c.in-Assign.expr c.in-Assign.port) is c.in-Assign.is in
    subst (λ (b : Arena). IsTarget (tree_of b c.in-Assign.target)) (sym c.shapes-shapes.ensures)
    (record { is = assign_target c.lawful_law.ensures.assign_targets c.args.typed.now c.flat.ensures.lawful c.args.p c.process.result.now c.in-Assign.target c.in-Assign.expr c.in-Assign.port is c.in-Assign.is; fits = and_left (fits_target (target_tree (tree_of c.args.typed.now c.in-Assign.target))) _ fits })

pub assign-requires-in-Assign-clause-fit : goal.assign-requires-in-Assign-clause-fit
assign-requires-in-Assign-clause-fit c =
    let is = subst (λ (b : Arena). slice_get b.processes c.args.p ≡ Some c.process.result.now) c.flat.ensures.same c.process.ensures in
    let fits = process_fits c.fits_law.ensures.fits c.trees_law.ensures.processes c.args.typed.now c.flat.ensures.lawful c.flat.ensures.fits c.args.p c.process.result.now (K.Assign c.in-Assign.target c.in-Assign.expr c.in-Assign.port) is c.in-Assign.is in
    subst (λ (b : Arena). Rattle.vs_design.specs.Fits.is_fit (tree_of b c.in-Assign.expr) ≡ true) (sym c.shapes-shapes.ensures) (and_right (fits_target (target_tree (tree_of c.args.typed.now c.in-Assign.target))) _ fits)

pub turn_early-requires-clause-block : goal.turn_early-requires-clause-block
turn_early-requires-clause-block c =
    let is = subst (λ (b : Arena). slice_get b.processes c.args.p ≡ Some c.process.result.now) c.flat.ensures.same c.process.ensures in
    (subst (λ (b : Arena). IsBlockOf b c.in-Block.statement c.writes-bits.result.now) (sym c.shapes-shapes.ensures)
    (block_is c.within_law.ensures.statements c.trees_law.ensures.processes c.names_law.ensures.processes c.fits_law.ensures.fits c.footprint_law.ensures.bits c.args.typed.now c.flat.ensures.lawful c.flat.ensures.fits c.requires.blocks c.args.p c.process.result.now c.in-Block.star c.in-Block.events c.in-Block.statement is c.in-Block.is
    (unclocked c.trees_law.ensures.processes c.args.typed.now c.args.p c.process.result.now c.in-Block.star c.in-Block.events c.in-Block.statement is c.in-Block.is c.requires.settles) c.writes-bits.result.now (c.writes-bits.ensures ∙ ap (λ fs. writes_at fs c.args.p) c.requires.footprints)))

pub turn_late-requires-clause-block : goal.turn_late-requires-clause-block
turn_late-requires-clause-block c =
    let is = subst (λ (b : Arena). slice_get b.processes c.args.p ≡ Some c.process.result.now) c.flat.ensures.same c.process.ensures in
    (subst (λ (b : Arena). IsBlockOf b c.in-Block.statement c.writes-bits.result.now) (sym c.shapes-shapes.ensures)
    (block_is c.within_law.ensures.statements c.trees_law.ensures.processes c.names_law.ensures.processes c.fits_law.ensures.fits c.footprint_law.ensures.bits c.args.typed.now c.flat.ensures.lawful c.flat.ensures.fits c.requires.blocks c.args.p c.process.result.now c.in-Block.star c.in-Block.events c.in-Block.statement is c.in-Block.is
    (unclocked c.trees_law.ensures.processes c.args.typed.now c.args.p c.process.result.now c.in-Block.star c.in-Block.events c.in-Block.statement is c.in-Block.is c.requires.settles) c.writes-bits.result.now (c.writes-bits.ensures ∙ ap (λ fs. writes_at fs c.args.p) c.requires.footprints)))

pub returns-in_ok-assign-in-Assign-clause-early : goal.returns-in_ok-assign-in-Assign-clause-early
returns-in_ok-assign-in-Assign-clause-early c = λ x e.
    let is = subst (λ (b : Arena). slice_get b.processes c.args.p ≡ Some c.process.result.now) c.flat.ensures.same c.process.ensures in
    let f = family_of c.args.early.now in
    always c.assign-in-Assign.result
    (assigned_early c.trees_law.ensures.processes c.args.typed.now c.args.p c.process.result.now c.in-Assign.target c.in-Assign.expr c.in-Assign.port is c.in-Assign.is (is_sleeping (design_of c.args.typed.now) x) (is_lenient_block x) f (family_of c.assign.new.table) x e
    (c.in_ok-assign-in-Assign.ensures ∙ ap (λ (b : Arena). assign_sets (target_tree (tree_of b c.in-Assign.target)) (tree_of b c.in-Assign.expr) f) c.shapes-shapes.ensures))

pub returns-in_ok-assign-in-Assign-clause-late : goal.returns-in_ok-assign-in-Assign-clause-late
returns-in_ok-assign-in-Assign-clause-late c = λ x e.
    let is = subst (λ (b : Arena). slice_get b.processes c.args.p ≡ Some c.process.result.now) c.flat.ensures.same c.process.ensures in
    let f = family_of c.args.late.now in
    on_ok c.assign-in-Assign.result c.assign-in-Assign.ensures (λ h.
    assigned_late c.trees_law.ensures.processes c.args.typed.now c.args.p c.process.result.now c.in-Assign.target c.in-Assign.expr c.in-Assign.port is c.in-Assign.is (is_sleeping (design_of c.args.typed.now) x) f (family_of c.assign-in-Assign.new.table) x e
    (h ∙ ap (λ (b : Arena). assign_sets (target_tree (tree_of b c.in-Assign.target)) (tree_of b c.in-Assign.expr) f) c.shapes-shapes.ensures))

pub is_lenient-lenient-requires : goal.is_lenient-lenient-requires
is_lenient-lenient-requires c = subst (λ n. c.args.p < n) (sym c.requires.cases.sound.processes) c.requires.there

-- the cases in the statement of a lenient block were looked at
defaults_are : (a : Arena) (cases : Found) (p : ℕ) (r : Process) (star : Bool) (events : List Event) (statement : ℕ) → AreAllNoted a cases → p < length a.processes → slice_get a.processes p ≡ Some r → r.kind ≡ K.Block star events statement
    → (lenient complete : Bool) (others : List (Option ℕ)) → lenient ≡ slice_index_or cases.lenient p false → complete ≡ lenient → others ≡ cases.others → AreDefaults a complete others statement
defaults_are a cases p r star events statement noted there is kind lenient complete others l c o on t under k of arms other at =
    ap (λ (xs : List (Option ℕ)). default_in xs t) o ∙ ((noted.each p there).cases r star events statement is kind (sym l ∙ sym c ∙ on) t under k of arms other at).1

pub turn_early-requires-clause-defaults : goal.turn_early-requires-clause-defaults
turn_early-requires-clause-defaults c =
    let is = subst (λ (b : Arena). slice_get b.processes c.args.p ≡ Some c.process.result.now) c.flat.ensures.same c.process.ensures in
    subst (λ (b : Arena). AreDefaults b c.defaults-defaults.result.complete c.defaults-defaults.result.others.now c.in-Block.statement) (sym c.shapes-shapes.ensures)
    (defaults_are c.args.typed.now c.args.cases.now c.args.p c.process.result.now c.in-Block.star c.in-Block.events c.in-Block.statement c.requires.cases c.requires.there is c.in-Block.is c.is_lenient-lenient.result c.defaults-defaults.result.complete c.defaults-defaults.result.others.now
    c.is_lenient-lenient.ensures c.defaults-defaults.ensures.complete c.defaults-defaults.ensures.others)

pub turn_late-requires-clause-defaults : goal.turn_late-requires-clause-defaults
turn_late-requires-clause-defaults c =
    let is = subst (λ (b : Arena). slice_get b.processes c.args.p ≡ Some c.process.result.now) c.flat.ensures.same c.process.ensures in
    subst (λ (b : Arena). AreDefaults b c.defaults-defaults.result.complete c.defaults-defaults.result.others.now c.in-Block.statement) (sym c.shapes-shapes.ensures)
    (defaults_are c.args.typed.now c.args.cases.now c.args.p c.process.result.now c.in-Block.star c.in-Block.events c.in-Block.statement c.requires.cases c.requires.there is c.in-Block.is c.is_lenient-lenient.result c.defaults-defaults.result.complete c.defaults-defaults.result.others.now
    c.is_lenient-lenient.ensures c.defaults-defaults.ensures.complete c.defaults-defaults.ensures.others)

pub returns-in_ok-turn_early-in-Block-clause-early : goal.returns-in_ok-turn_early-in-Block-clause-early
returns-in_ok-turn_early-in-Block-clause-early c = λ x e.
    let a = c.args.typed.now in
    let is = subst (λ (b : Arena). slice_get b.processes c.args.p ≡ Some c.process.result.now) c.flat.ensures.same c.process.ensures in
    let f = family_of c.args.early.now in
    let g = family_of c.turn_early.new.table in
    let statement = c.in-Block.statement in
    let lenient = c.is_lenient-lenient.result in
    let clocked = unclocked c.trees_law.ensures.processes a c.args.p c.process.result.now c.in-Block.star c.in-Block.events statement is c.in-Block.is c.requires.settles in
    let ran = subst (λ (b : Arena). let t = done lenient b statement in g ≡ (λ n. early_end (contains (statement_bits t) n) c.sleeps-asleep.result lenient (is_quiet t f) (block_sets t f n) (f n))) c.shapes-shapes.ensures
    (subst (λ (k : Bool). let t = done k c.shapes-shapes.result.now statement in g ≡ (λ n. early_end (contains (statement_bits t) n) c.sleeps-asleep.result lenient (is_quiet t f) (block_sets t f n) (f n))) c.defaults-defaults.ensures.complete c.in_ok-turn_early-in-Block.ensures) in
    let mark = c.is_lenient-lenient.ensures ∙ (c.requires.cases.each c.args.p c.requires.there).mark x e in
    always c.turn_late.result (ran_early c.trees_law.ensures.processes a c.args.p c.process.result.now c.in-Block.star c.in-Block.events statement is c.in-Block.is clocked c.sleeps-asleep.result lenient f g ran x e (c.sleeps-asleep.ensures x e) mark)

pub returns-in_ok-turn_early-in-Block-clause-late : goal.returns-in_ok-turn_early-in-Block-clause-late
returns-in_ok-turn_early-in-Block-clause-late c = λ x e.
    let a = c.args.typed.now in
    let is = subst (λ (b : Arena). slice_get b.processes c.args.p ≡ Some c.process.result.now) c.flat.ensures.same c.process.ensures in
    let f = family_of c.args.late.now in
    let g = family_of c.turn_late.new.table in
    let statement = c.in-Block.statement in
    let lenient = c.is_lenient-lenient.result in
    let clocked = unclocked c.trees_law.ensures.processes a c.args.p c.process.result.now c.in-Block.star c.in-Block.events statement is c.in-Block.is c.requires.settles in
    let mark = c.is_lenient-lenient.ensures ∙ (c.requires.cases.each c.args.p c.requires.there).mark x e in
    on_ok c.turn_late.result c.turn_late.ensures (λ h.
    let ran = subst (λ (b : Arena). let t = done lenient b statement in g ≡ (λ n. late_end (contains (statement_bits t) n) c.sleeps-asleep.result (block_sets t f n) (f n))) c.shapes-shapes.ensures
    (subst (λ (k : Bool). let t = done k c.shapes-shapes.result.now statement in g ≡ (λ n. late_end (contains (statement_bits t) n) c.sleeps-asleep.result (block_sets t f n) (f n))) c.defaults-defaults.ensures.complete h) in
    ran_late c.trees_law.ensures.processes a c.args.p c.process.result.now c.in-Block.star c.in-Block.events statement is c.in-Block.is clocked c.sleeps-asleep.result lenient f g ran x e (c.sleeps-asleep.ensures x e) mark)
