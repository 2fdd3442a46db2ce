use Rattle.std.proofs.Common.{◌<◌, ◌≤◌, length, sym, ap, ◌∙◌, arith}
use Rattle.vs_design.specs.Lifted.{Family}
use Rattle.vs_design.specs.TimeZero.{Families, is_uncertain}
use Rattle.vs_flat.specs.Arena.{Arena}
use Rattle.vs_flat.specs.DesignOf.{design_of}
use Rattle.vs_sets.specs.Tables.{family_of}
use Rattle.vs_zero.proofs.Deciding.{none_more, first_is, none_is}
use Rattle.vs_reads.proofs.Numbered.{process_there}
use Rattle.vs_zero.proofs.Settling.{both}
use Rattle.vs_zero.proofs.process.first_uncertain.Goals as goal

pub returns-then-branch : goal.returns-then-branch
returns-then-branch c =
    let d = design_of c.args.typed.now in
    let p = c.loop-p.p in
    let l : p < length d.processes = omega (arith, c.loop-p-test.true, c.process_count-p-end.ensures.count, ap (λ (a : Arena). length a.processes) c.flat.ensures.same, (c.trees_law.ensures.counts c.args.typed.now).processes) in
    let x = process_there d.processes p l in
    let late = family_of c.args.late.now in
    let f : Families = both (family_of c.args.early.now) late in
    let e = c.in_ok-is_uncertain.ensures.uncertain x.0 x.1 ∙ ap (λ (g : Family). is_uncertain d (both g late) x.0) c.loop-p.invariant.same in
    first_is d (is_uncertain d f) p x.0 x.1 (sym c.if-branch.true ∙ e) c.loop-p.invariant.none

pub loop-p-preserved : goal.loop-p-preserved
loop-p-preserved c =
    let d = design_of c.args.typed.now in
    let p = c.loop-p.p in
    let l : p < length d.processes = omega (arith, c.loop-p-test.true, c.process_count-p-end.ensures.count, ap (λ (a : Arena). length a.processes) c.flat.ensures.same, (c.trees_law.ensures.counts c.args.typed.now).processes) in
    let x = process_there d.processes p l in
    let late = family_of c.args.late.now in
    let f : Families = both (family_of c.args.early.now) late in
    let e = c.in_ok-is_uncertain.ensures.uncertain x.0 x.1 ∙ ap (λ (g : Family). is_uncertain d (both g late) x.0) c.loop-p.invariant.same in
    record {
      same = c.in_ok-is_uncertain.ensures.same ∙ c.loop-p.invariant.same;
      none = none_more d (is_uncertain d f) p x.0 x.1 (sym c.if-branch.false ∙ e) c.loop-p.invariant.none;
    }

pub returns : goal.returns
returns c =
    let d = design_of c.args.typed.now in
    let l : length d.processes ≤ c.loop-p.p = omega (arith, c.loop-p-test.false, c.process_count-p-end.ensures.count, ap (λ (a : Arena). length a.processes) c.flat.ensures.same, (c.trees_law.ensures.counts c.args.typed.now).processes) in
    none_is d (is_uncertain d (both (family_of c.args.early.now) (family_of c.args.late.now))) c.loop-p.p l c.loop-p.invariant.none
