use Rattle.std.proofs.Common.{◌≡◌, ◌+◌, if◌then◌else◌, List, ℕ, length, sym, ap, ◌∙◌, subst, arith, Some}
use Rattle.std.specs.Prelude.{slice_get}
use Rattle.vs_design.specs.Designs.{bit_count}
use Rattle.vs_design.specs.Footprints.{contains}
use Rattle.vs_flat.specs.Arena.{Arena}
use Rattle.vs_flat.specs.DesignOf.{arena_signals, arena_trees, arena_statements, design_of}
use Rattle.vs_flat.specs.Trees.{signal_at, tree_at, statement_at}
use Rattle.vs_queue.specs.Initially.{AreKept, owner}
use Rattle.vs_queue.proofs.Alone.{all_below, footprint_below, footprint_same}
use Rattle.vs_queue.proofs.Owners.{kind_clocked, kept_next, unkept_next}
use Rattle.vs_queue.proofs.starts.note_owners.Goals as goal
use Rattle.vs_queue.proofs.starts.note_owners.Goals.{then-is_clocked, else-is_clocked}

pub loop-p-init : goal.loop-p-init
loop-p-init c = (c.requires.many, λ keeper h. h)

pub writes-requires : goal.writes-requires
writes-requires c =
    let a = c.args.typed.now in
    let l = c.loop-p-test.true in
    let m = c.process_count-p-end.ensures.count in
    let n = ap (λ (z : Arena). length z.processes) c.flat-flat.ensures.same in
    let k = (c.trees_law.ensures.counts a).processes in
    let f = ap length c.requires.footprints in
    let g = c.footprint_law.ensures.counts (design_of a) in
    omega (arith, l, m, n, k, f, g)

pub set_owners-requires : goal.set_owners-requires
set_owners-requires c =
    let a = c.args.typed.now in
    let d = design_of a in
    let l = c.loop-p-test.true in
    let m = c.process_count-p-end.ensures.count in
    let n = ap (λ (z : Arena). length z.processes) c.flat-flat.ensures.same in
    let k = (c.trees_law.ensures.counts a).processes in
    let lawful = c.lawful_law.ensures.design a c.flat-flat.ensures.lawful in
    all_below c.writes.result.now (length c.loop-p.owners) (λ b h.
    let below = footprint_below c.footprint_law.ensures.bits d lawful c.args.footprints.now c.requires.footprints c.loop-p.p (omega (arith, l, m, n, k)) b (ap (λ bs. contains bs b) (sym c.writes.ensures) ∙ h) in
    let long = c.loop-p.invariant.0 in
    omega (arith, below, long))

pub loop-p-preserved : goal.loop-p-preserved
loop-p-preserved c =
    let a = c.args.typed.now in
    let d = design_of a in
    let p = c.loop-p.p in
    let q = c.process.result.now in
    let at = subst (λ (z : Arena). slice_get z.processes p ≡ Some q) c.flat-flat.ensures.same c.process.ensures in
    let lawful = c.lawful_law.ensures.design a c.flat-flat.ensures.lawful in
    let there = c.trees_law.ensures.processes a p q at in
    let told = sym (kind_clocked (signal_at (arena_signals a)) (tree_at (arena_trees a)) (statement_at (arena_statements a)) q.at q.kind) ∙ sym c.is_clocked.ensures in
    elim c.if-is_clocked.branch [
      | then-is_clocked w ↦ subst (λ (os : List ℕ). (length os ≡ bit_count d) × ((keeper : ℕ) → AreKept d 0 keeper c.args.owners.now → AreKept d (p + 1) keeper os)) (cc w.owners-is) (
        w.set_owners.auto.owners ∙ c.loop-p.invariant.0,
        λ keeper h. kept_next d p keeper _ there c.loop-p.owners w.set_owners.new.owners (told ∙ w.if-is_clocked.true)
            (λ b. w.set_owners.ensures b ∙ ap (λ bs. if contains bs b then p else owner c.loop-p.owners b) w.writes.ensures ∙ ap (λ e. if e then p else owner c.loop-p.owners b) (footprint_same c.footprint_law.ensures.bits d lawful c.args.footprints.now c.requires.footprints p _ there b)) (c.loop-p.invariant.1 keeper h),
      )
      | else-is_clocked w ↦ subst (λ (os : List ℕ). (length os ≡ bit_count d) × ((keeper : ℕ) → AreKept d 0 keeper c.args.owners.now → AreKept d (p + 1) keeper os)) (cc w.owners-is) (
        c.loop-p.invariant.0,
        λ keeper h. unkept_next d p keeper _ there c.loop-p.owners (told ∙ w.if-is_clocked.false) (c.loop-p.invariant.1 keeper h),
      )
    ]

pub returns : goal.returns
returns c = λ keeper h.
    let a = c.args.typed.now in
    let d = design_of a in
    let l = c.loop-p-test.false in
    let e = c.loop-p.auto.p-end in
    let m = c.process_count-p-end.ensures.count in
    let n = ap (λ (z : Arena). length z.processes) c.flat-flat.ensures.same in
    let k = (c.trees_law.ensures.counts a).processes in
    let all : c.loop-p.p ≡ length d.processes = omega (arith, l, e, m, n, k) in
    subst (λ j. AreKept d j keeper c.loop-p.owners) all (c.loop-p.invariant.1 keeper h)
