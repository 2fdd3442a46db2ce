use Rattle.std.proofs.Common.{◌≡◌, length, ap, subst, arith}
use Rattle.vs_flat.specs.Arena.{Arena}
use Rattle.vs_flat.specs.DesignOf.{design_of}
use Rattle.vs_driver.specs.Marks.{AreSettled}
use Rattle.vs_driver.proofs.settled.settled_of.Goals as goal

pub loop-p-init : goal.loop-p-init
loop-p-init c = record {
  all_settled = c.in_ok-no_marks.ensures.all;
  all_stirring = c.in_ok-no_marks-2.ensures.all;
  settled = c.in_ok-no_marks.ensures.none;
  stirring = c.in_ok-no_marks-2.ensures.none;
}

pub returns : goal.returns
returns c =
    let a = c.args.typed.now in
    let counts = c.trees_law.ensures.counts a in
    let same = ap (λ (y : Arena). length y.processes) c.flat.ensures.same in
    let all : c.loop-p.p ≡ length (design_of a).processes = omega (arith, c.loop-p-test.false, c.loop-p.auto.p-end, c.process_count-p-end.ensures.count, counts.processes, same) in
    subst (λ n. AreSettled (design_of a) n c.loop-p.marks) all c.loop-p.invariant
