use Rattle.std.proofs.Common.{◌<◌, ◌≤◌, length, filter, sym, ap, ◌∙◌, arith}
use Rattle.std.proofs.lemmas.List.{take_all}
use Rattle.vs_design.specs.Footprints.{signals_bits}
use Rattle.vs_flat.specs.Arena.{Arena}
use Rattle.vs_flat.specs.DesignOf.{arena_signals}
use Rattle.vs_sets.specs.Branches.{replaced}
use Rattle.vs_sets.specs.Tables.{family_of}
use Rattle.vs_zero.specs.Sources.{is_kind}
use Rattle.vs_zero.proofs.Sourcing.{signal_filled, signal_skipped}
use Rattle.vs_zero.proofs.sources.fill_kind.Goals as goal
use Rattle.vs_zero.proofs.sources.fill_kind.Goals.{then-is_kind, else-is_kind}

pub loop-n-preserved : goal.loop-n-preserved
loop-n-preserved c =
    let a = c.args.shapes.now in
    let ss = arena_signals a in
    let n = c.loop-n.n in
    let test = is_kind c.args.kind in
    let g = family_of c.args.table.now in
    let l : n < length ss = omega (arith, c.loop-n-test.true, c.signal_count-n-end.ensures.count, ap (λ (b : Arena). length b.signals) c.flat.ensures.same, (c.trees_law.ensures.counts a).signals) in
    elim c.if-is_kind.branch [
      | then-is_kind w ↦ ap family_of w.table-is ∙ signal_filled test ss n c.args.set (family_of c.loop-n.table) g (family_of w.fill_signal.new.table) l (sym c.is_kind.ensures ∙ w.if-is_kind.true) c.loop-n.invariant w.fill_signal.ensures
      | else-is_kind w ↦ ap family_of w.table-is ∙ signal_skipped test ss n c.args.set (family_of c.loop-n.table) g l (sym c.is_kind.ensures ∙ w.if-is_kind.false) c.loop-n.invariant
    ]

pub returns : goal.returns
returns c =
    let a = c.args.shapes.now in
    let ss = arena_signals a in
    let l : length ss ≤ c.loop-n.n = omega (arith, c.loop-n-test.false, c.signal_count-n-end.ensures.count, ap (λ (b : Arena). length b.signals) c.flat.ensures.same, (c.trees_law.ensures.counts a).signals) in
    c.loop-n.invariant ∙ ap (λ xs. replaced (signals_bits (filter (is_kind c.args.kind) xs)) (λ b. c.args.set) (family_of c.args.table.now)) (take_all c.loop-n.n ss l)
