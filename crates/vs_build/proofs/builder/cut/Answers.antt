use Rattle.std.proofs.Common.{rules, ◌≡◌, ◌+◌, ◌≤◌, length, get_or, take, drop, sym, subst, ◌-◌, refl, arith, ◌∙◌}
use Rattle.vs_build.proofs.Cutting.{IsCutSoFar, cut_begins, cut_fits, cut_goes_on, cut_ends}
use Rattle.vs_build.proofs.builder.cut.Goals as goal

pub overflow_add-end : goal.overflow_add-end
overflow_add-end c =
    let fits : c.loop-arm.next + length c.arm-item.result.labels.items ≤ length c.args.labels.now = cut_fits c.args.arms.now c.args.labels.now c.args.statements.now c.loop-arm.arm-index c.loop-arm.next c.loop-arm.number c.loop-arm.made.items c.arm-item.result c.loop-arm.invariant (omega arith) c.arm-item.is in
    let n : c.len.result ≡ length c.arm-item.result.labels.items = search rules in
    search rules

pub slice_bounds-list_of-end : goal.slice_bounds-list_of-end
slice_bounds-list_of-end c =
    let fits : c.loop-arm.next + length c.arm-item.result.labels.items ≤ length c.args.labels.now = cut_fits c.args.arms.now c.args.labels.now c.args.statements.now c.loop-arm.arm-index c.loop-arm.next c.loop-arm.number c.loop-arm.made.items c.arm-item.result c.loop-arm.invariant (omega arith) c.arm-item.is in
    let n : c.len.result ≡ length c.arm-item.result.labels.items = search rules in
    let within : c.loop-arm.next + c.len.result ≤ length c.args.labels.now = omega (arith, fits, n) in
    search rules

pub loop-arm-preserved : goal.loop-arm-preserved
loop-arm-preserved c =
    let n : c.len.result ≡ length c.arm-item.result.labels.items = search rules in
    let end : c.loop-arm.next + c.len.result ≡ c.loop-arm.next + length c.arm-item.result.labels.items = omega (arith, n) in
    let items : c.of.result ≡ take (c.loop-arm.next + c.len.result - c.loop-arm.next) (drop c.loop-arm.next c.args.labels.now) = c.of.ensures ∙ c.in_ok-items.ensures in
    subst (λ xs. IsCutSoFar c.args.arms.now c.args.labels.now c.args.statements.now (c.loop-arm.arm-index + 1) (c.loop-arm.next + c.len.result) (c.loop-arm.number + 1) xs) (sym c.in_ok-push.ensures.items)
    (cut_goes_on c.args.arms.now c.args.labels.now c.args.statements.now c.loop-arm.arm-index c.loop-arm.next c.loop-arm.number (c.loop-arm.next + c.len.result) (get_or c.args.statements.now c.loop-arm.number 0) c.loop-arm.made.items c.arm-item.result c.of.result c.loop-arm.invariant (omega arith) c.arm-item.is (omega (arith, c.loop-arm.invariant.counted, c.requires.statements)) end items refl)

pub returns : goal.returns
returns c = cut_ends c.args.arms.now c.args.labels.now c.args.statements.now c.loop-arm.arm-index c.loop-arm.next c.loop-arm.number c.loop-arm.made.items c.loop-arm.invariant (omega arith)

pub loop-arm-init : goal.loop-arm-init
loop-arm-init c = subst (λ xs. IsCutSoFar c.args.arms.now c.args.labels.now c.args.statements.now 0 0 0 xs) (sym c.new-made.ensures.items) (cut_begins c.args.arms.now c.args.labels.now c.args.statements.now c.requires.labels)
