use Rattle.std.proofs.Common.{get_or, refl, sym, ap, ◌∙◌, arith}
use Rattle.std.specs.Prelude.{slice_get}
use Rattle.std.proofs.lemmas.Option.{slice_get_within, slice_get-get_or}
use Rattle.vs_flat.specs.DesignOf.{design_of}
use Rattle.vs_sets.specs.Tables.{family_of}
use Rattle.vs_reads.proofs.ByKind.{process_same}
use Rattle.vs_zero.proofs.Settling.{along_step}
use Rattle.vs_zero.proofs.Unrefused.{settling}
use Rattle.vs_design.specs.Designs.{is_clocked}
use Rattle.vs_zero.proofs.process.settle.Goals as goal

pub turn-requires-clause-there : goal.turn-requires-clause-there
turn-requires-clause-there c =
    let d = design_of c.args.typed.now in
    let p = get_or c.args.order.now c.loop-p.p-index 0 in
    let s = settling d c.args.order.now c.loop-p.p-index p c.requires.order (slice_get-get_or c.args.order.now c.loop-p.p-index 0 c.loop-p-test.true) in
    let l = slice_get_within d.processes p s.process s.is in
    omega (arith, l, (c.trees_law.ensures.counts c.args.typed.now).processes)

pub turn-requires-clause-settles : goal.turn-requires-clause-settles
turn-requires-clause-settles c = λ x e.
    let d = design_of c.args.typed.now in
    let p = get_or c.args.order.now c.loop-p.p-index 0 in
    let s = settling d c.args.order.now c.loop-p.p-index p c.requires.order (slice_get-get_or c.args.order.now c.loop-p.p-index 0 c.loop-p-test.true) in
    ap is_clocked (sym (process_same s.process x (slice_get d.processes p) s.is e)) ∙ s.settles

pub loop-p-preserved : goal.loop-p-preserved
loop-p-preserved c =
    let d = design_of c.args.typed.now in
    let k = c.loop-p.p-index in
    let p = get_or c.args.order.now k 0 in
    let s = settling d c.args.order.now k p c.requires.order (slice_get-get_or c.args.order.now k 0 c.loop-p-test.true) in
    along_step d c.args.order.now k p s.process (family_of c.loop-p.early) (family_of c.loop-p.late) (family_of c.turn.new.early) (family_of c.turn.new.late) c.loop-p-test.true refl s.is
    (c.in_ok-turn.ensures.early s.process s.is) (c.in_ok-turn.ensures.late s.process s.is)
    ∙ c.loop-p.invariant
