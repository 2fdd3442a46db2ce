use Rattle.std.proofs.Common.{◌≡◌, length, ap, ◌∙◌, subst, arith}
use Rattle.std.proofs.lemmas.List.{length-map}
use Rattle.vs_design.specs.Designs.{in_text_order}
use Rattle.vs_flat.specs.Arena.{Arena}
use Rattle.vs_flat.specs.Lawful.{IsLawful}
use Rattle.vs_flat.specs.DesignOf.{design_of}
use Rattle.vs_flat.specs.TextOrder.{any_of, text_numbers}
use Rattle.vs_typed.proofs.FoundSteps.{none_left}
use Rattle.vs_typed.proofs.refused.check_processes.Goals as goal

pub check_next-requires-clause-order : goal.check_next-requires-clause-order
check_next-requires-clause-order c = c.as_slice.ensures.value ∙ c.in_ok-order.ensures ∙ ap (λ (y : Arena). text_numbers (design_of y)) c.flat.ensures.same

pub returns-clause-passes : goal.returns-clause-passes
returns-clause-passes c =
    let d = design_of c.args.shapes.now in
    let told : c.in_ok-order.order.items ≡ text_numbers d = c.in_ok-order.ensures ∙ ap (λ (y : Arena). text_numbers (design_of y)) c.flat.ensures.same in
    let whole : length c.in_ok-order.order.items ≡ length (in_text_order d) = ap length told ∙ length-map (in_text_order d) any_of in
    none_left d c.loop-n.n (omega (arith, whole, c.loop-n-test.false)) c.loop-n.invariant

pub returns-clause-fits : goal.returns-clause-fits
returns-clause-fits c =
    let d = design_of c.args.shapes.now in
    let lawful = subst IsLawful c.flat.ensures.same c.flat.ensures.lawful in
    let told : c.in_ok-order.order.items ≡ text_numbers d = c.in_ok-order.ensures ∙ ap (λ (y : Arena). text_numbers (design_of y)) c.flat.ensures.same in
    let whole : length c.in_ok-order.order.items ≡ length (in_text_order d) = ap length told ∙ length-map (in_text_order d) any_of in
    c.unrefused_law.ensures.processes d lawful.design (none_left d c.loop-n.n (omega (arith, whole, c.loop-n-test.false)) c.loop-n.invariant)

pub returns-clause-initials : goal.returns-clause-initials
returns-clause-initials c =
    let d = design_of c.args.shapes.now in
    let lawful = subst IsLawful c.flat.ensures.same c.flat.ensures.lawful in
    let told : c.in_ok-order.order.items ≡ text_numbers d = c.in_ok-order.ensures ∙ ap (λ (y : Arena). text_numbers (design_of y)) c.flat.ensures.same in
    let whole : length c.in_ok-order.order.items ≡ length (in_text_order d) = ap length told ∙ length-map (in_text_order d) any_of in
    c.unrefused_law.ensures.initials d lawful.design (none_left d c.loop-n.n (omega (arith, whole, c.loop-n-test.false)) c.loop-n.invariant)
