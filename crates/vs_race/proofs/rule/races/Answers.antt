use Rattle.std.proofs.Common.{◌≡◌, ◌<◌, List, length, Some, sym, ap, ◌∙◌, subst, arith}
use Rattle.std.specs.Prelude.{slice_get}
use Rattle.std.proofs.lemmas.Option.{slice_get_within}
use Rattle.vs_flat.specs.Arena.{Arena}
use Rattle.vs_flat.specs.DesignOf.{design_of}
use Rattle.vs_reads.proofs.ByKind.{place_at_is}
use Rattle.vs_reads.proofs.Numbered.{place_is, process_there}
use Rattle.vs_race.specs.declared.stirrer.Stirrer.{Stirrer}
use Rattle.vs_race.specs.Stirrers.{AreTold, stirs_bit}
use Rattle.vs_race.specs.Refused.{IsFirstRaced}
use Rattle.vs_race.proofs.Racing.{free, raced, more_free}
use Rattle.vs_race.proofs.rule.races.Goals as goal

pub returns-in-Some-clause-refused : goal.returns-in-Some-clause-refused
returns-in-Some-clause-refused c =
    let a = c.args.typed.now in
    let d = design_of a in
    let p = c.loop-process.process in
    let whole = ap (λ (a : Arena). length a.processes) c.flat-flat.ensures.same in
    let within : p < length d.processes = omega (arith, whole, (c.trees_law.ensures.counts a).processes, c.process_count-process-end.ensures.count, c.loop-process-test.true) in
    let x = process_there d.processes p within in
    let r = c.process.result.now in
    let told = subst (λ (t : List Stirrer). AreTold t (stirs_bit d c.args.order.now)) (sym c.as_slice.ensures.value) c.in_ok-table.ensures.told in
    let at : slice_get a.processes p ≡ Some r = subst (λ (x : Arena). slice_get x.processes p ≡ Some r) c.flat-flat.ensures.same c.process.ensures in
    raced c.refusal_law.ensures.race c.race_law.ensures.orders d c.args.order.now c.requires.order p x.0 c.in-Some.bit r.at x.1
    (subst (IsFirstRaced d c.args.order.now p x.0) c.in-Some.is (c.first_raced.ensures c.args.order.now x.0 told x.1)) c.loop-process.invariant
    (place_at_is c.trees_law.ensures.processes a p r at ∙ place_is d.processes p x.0 x.1)

pub loop-process-preserved : goal.loop-process-preserved
loop-process-preserved c =
    let d = design_of c.args.typed.now in
    let told = subst (λ (t : List Stirrer). AreTold t (stirs_bit d c.args.order.now)) (sym c.as_slice.ensures.value) c.in_ok-table.ensures.told in
    more_free d c.args.order.now c.loop-process.process c.first_raced.result c.in_default.is (λ x i. c.first_raced.ensures c.args.order.now x told i) c.loop-process.invariant

pub returns-clause-free : goal.returns-clause-free
returns-clause-free c =
    let a = c.args.typed.now in
    let d = design_of a in
    let whole = ap (λ (a : Arena). length a.processes) c.flat-flat.ensures.same in
    free c.refusal_law.ensures.race c.race_law.ensures.orders d c.args.order.now c.requires.order
    (λ q x i. c.loop-process.invariant q x
    (let l = slice_get_within d.processes q x i in omega (arith, l, whole, (c.trees_law.ensures.counts a).processes, c.process_count-process-end.ensures.count, c.loop-process-test.false)) i)
