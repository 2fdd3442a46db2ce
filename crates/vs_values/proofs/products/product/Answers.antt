use Rattle.std.proofs.Common.{Vec, Global, ◌≡◌, ◌+◌, ◌*◌, ◌<◌, ℕ, false, replicate, length, subst}
use Rattle.std.proofs.lemmas.Result.{IfOk-weaker}
use Rattle.std.proofs.lemmas.List.Elements.{All-tail}
use Rattle.vs_four.specs.Logic.{all_known}
use Rattle.vs_values.specs.Constants.{AreConstant, constant_bits}
use Rattle.vs_values.specs.Products.{AddsProduct, ones}
use Rattle.vs_values.proofs.Summed.{product_unknown}
use Rattle.vs_values.proofs.products.product.Goals as goal

pub returns-then-not-known : goal.returns-then-not-known
returns-then-not-known c =
    let code = c.args.code.now in
    let a = c.args.a.now in
    let unknown : all_known (constant_bits c.args.c.now) ≡ false = cc in
    IfOk-weaker c.repeated.result
    (λ (to : Vec ℕ Global). to.items ≡ replicate (length a) 2)
    (λ (to : Vec ℕ Global). AddsProduct code code a c.args.c.now ((ones c.args.c.now + 1) * length a) to.items)
    (λ to h. product_unknown code a c.args.c.now to.items c.requires.room.constants c.requires.constant unknown h)
    c.repeated.ensures

pub odd_product-requires-clause-constant : goal.odd_product-requires-clause-constant
odd_product-requires-clause-constant c =
    All-tail (λ slot. slot < 4) c.in-Some-eq1-default.field-0-0.now c.in-Some-eq1-default.higher.now (subst AreConstant c.in-Some-eq1-default.ensures.cases.0 c.requires.constant)
