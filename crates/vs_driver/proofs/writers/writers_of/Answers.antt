use Rattle.std.proofs.Common.{◌≡◌, length, map, ap, sym, ◌∙◌, subst, arith}
use Rattle.std.specs.List.{flat_map}
use Rattle.std.proofs.lemmas.List.{length-map, take_all}
use Rattle.vs_design.specs.Designs.{in_text_order}
use Rattle.vs_design.specs.Refusals.{writes_at}
use Rattle.vs_flat.specs.Arena.{Arena}
use Rattle.vs_flat.specs.Lawful.{IsLawful}
use Rattle.vs_flat.specs.DesignOf.{design_of}
use Rattle.vs_flat.specs.TextOrder.{any_of, text_numbers}
use Rattle.vs_driver.specs.Writers.{first_writers}
use Rattle.vs_driver.proofs.Settling.{one_there}
use Rattle.vs_driver.proofs.Writing.{writers_next}
use Rattle.vs_driver.proofs.writers.writers_of.Goals as goal

pub text_order-requires : goal.text_order-requires
text_order-requires c = subst IsLawful (sym c.flat.ensures.same) c.flat.ensures.lawful

pub with_next-requires-clause-order : goal.with_next-requires-clause-order
with_next-requires-clause-order c = c.as_slice.ensures.value ∙ c.in_ok-order.ensures ∙ ap (λ (y : Arena). text_numbers (design_of y)) c.flat.ensures.same

pub loop-n-preserved : goal.loop-n-preserved
loop-n-preserved c =
    let d = design_of c.args.typed.now in
    let told : c.in_ok-order.order.items ≡ text_numbers d = c.in_ok-order.ensures ∙ ap (λ (y : Arena). text_numbers (design_of y)) c.flat.ensures.same in
    let whole : length c.in_ok-order.order.items ≡ length (in_text_order d) = ap length told ∙ length-map (in_text_order d) any_of in
    let x = one_there (in_text_order d) c.loop-n.n (omega (arith, whole, c.loop-n-test.true)) in
    writers_next d c.args.bit c.loop-n.n x.0 c.loop-n.writers _ x.1 (c.in_ok-writers.ensures x.0 x.1) c.loop-n.invariant

pub returns : goal.returns
returns c =
    let d = design_of c.args.typed.now in
    let told : c.in_ok-order.order.items ≡ text_numbers d = c.in_ok-order.ensures ∙ ap (λ (y : Arena). text_numbers (design_of y)) c.flat.ensures.same in
    let whole : length c.in_ok-order.order.items ≡ length (in_text_order d) = ap length told ∙ length-map (in_text_order d) any_of in
    c.loop-n.invariant ∙ ap (λ xs. first_writers (map any_of (flat_map (writes_at c.args.bit) xs))) (take_all c.loop-n.n (in_text_order d) (omega (arith, whole, c.loop-n-test.false)))
