use Rattle.std.proofs.Common.{◌≡◌, length, sym, ap, ◌∙◌, subst, arith}
use Rattle.std.proofs.lemmas.List.{length-map}
use Rattle.vs_design.specs.Designs.{in_text_order}
use Rattle.vs_flat.specs.Arena.{Arena}
use Rattle.vs_flat.specs.Lawful.{IsLawful}
use Rattle.vs_flat.specs.DesignOf.{design_of}
use Rattle.vs_flat.specs.TextOrder.{any_of, text_numbers}
use Rattle.vs_block.proofs.Blocks.{stands_there, first_refused, function_refused, none_refused, none_more, refused_exit}
use Rattle.vs_block.proofs.block.block_forms.Goals as goal

pub text_order-requires : goal.text_order-requires
text_order-requires c = subst IsLawful (sym c.flat.ensures.same) c.flat.ensures.lawful

pub check_next-requires-clause-order : goal.check_next-requires-clause-order
check_next-requires-clause-order c = c.as_slice.ensures.value ∙ c.in_ok-order.ensures ∙ ap (λ (y : Arena). text_numbers (design_of y)) c.flat.ensures.same

pub returns-in_err-check_next-clause-refused : goal.returns-in_err-check_next-clause-refused
returns-in_err-check_next-clause-refused c =
    let d = design_of c.args.typed.now in
    let n = c.loop-n.n in
    let told : c.in_ok-order.order.items ≡ text_numbers d = c.in_ok-order.ensures ∙ ap (λ (y : Arena). text_numbers (design_of y)) c.flat.ensures.same in
    let whole : length c.in_ok-order.order.items ≡ length (in_text_order d) = ap length told ∙ length-map (in_text_order d) any_of in
    let x = stands_there (in_text_order d) n (omega (arith, whole, c.loop-n-test.true)) in
    refused_exit d c.from_residual-in_err-check_next.result c.in_err-check_next.field-0.0 c.from_residual-in_err-check_next.ensures.1
    (first_refused d (sym c.in_ok-latching.ensures ∙ c.in_default.is) n x.0 c.in_err-check_next.field-0.0 x.1 c.loop-n.invariant (c.in_err-check_next.ensures.refused x.0 x.1))

pub loop-n-preserved : goal.loop-n-preserved
loop-n-preserved c =
    let d = design_of c.args.typed.now in
    let n = c.loop-n.n in
    let told : c.in_ok-order.order.items ≡ text_numbers d = c.in_ok-order.ensures ∙ ap (λ (y : Arena). text_numbers (design_of y)) c.flat.ensures.same in
    let whole : length c.in_ok-order.order.items ≡ length (in_text_order d) = ap length told ∙ length-map (in_text_order d) any_of in
    let x = stands_there (in_text_order d) n (omega (arith, whole, c.loop-n-test.true)) in
    none_more d n x.0 x.1 (c.in_ok-check_next.ensures.kept x.0 x.1) c.loop-n.invariant

pub returns-clause-unrefused : goal.returns-clause-unrefused
returns-clause-unrefused c =
    let d = design_of c.args.typed.now in
    let told : c.in_ok-order.order.items ≡ text_numbers d = c.in_ok-order.ensures ∙ ap (λ (y : Arena). text_numbers (design_of y)) c.flat.ensures.same in
    let whole : length c.in_ok-order.order.items ≡ length (in_text_order d) = ap length told ∙ length-map (in_text_order d) any_of in
    none_refused d (sym c.in_ok-latching.ensures ∙ c.in_default.is) c.loop-n.n (omega (arith, whole, c.loop-n-test.false)) c.loop-n.invariant

pub returns-in-Some-clause-refused : goal.returns-in-Some-clause-refused
returns-in-Some-clause-refused c = function_refused (design_of c.args.typed.now) c.in-Some.at (sym c.in_ok-latching.ensures ∙ c.in-Some.is)
