use Rattle.std.proofs.Common.{Vec, Global, ◌∙◌, ◌+◌, ◌*◌, ℕ, sym, length, true≢false}
use Rattle.std.proofs.lemmas.Result.{IfOk-weaker}
use Rattle.vs_values.specs.Products.{AddsProduct, IsCheap, ones, product_cost}
use Rattle.vs_values.proofs.Summed.{room_less, cheap_fits, other_fits, other_cheap, product_within, product_swapped}
use Rattle.vs_values.proofs.products.summed.Goals as goal

pub product-requires-clause-room : goal.product-requires-clause-room
product-requires-clause-room c =
    let a = c.args.a.now in
    let b = c.args.b.now in
    let cheap : IsCheap b = c.is_cheap.ensures.0 c.if-is_cheap.true in
    room_less c.args.code.now a (product_cost (length a)) ((ones b + 1) * length a) (cheap_fits b (length a) (sym c.requires.alike) cheap) c.requires.room_a

pub product-requires-else-is_cheap-clause-room : goal.product-requires-else-is_cheap-clause-room
product-requires-else-is_cheap-clause-room c =
    let a = c.args.a.now in
    let b = c.args.b.now in
    let cheap : IsCheap a = other_cheap a b c.requires.cheap (λ h. true≢false (sym (c.is_cheap.ensures.1 h) ∙ c.if-is_cheap.false)) in
    room_less c.args.code.now b (product_cost (length a)) ((ones a + 1) * length b) (other_fits a b c.requires.alike cheap) c.requires.room_b

pub returns-then-is_cheap : goal.returns-then-is_cheap
returns-then-is_cheap c =
    let code = c.args.code.now in
    let code1 = c.product.new.code in
    let a = c.args.a.now in
    let b = c.args.b.now in
    let cheap : IsCheap b = c.is_cheap.ensures.0 c.if-is_cheap.true in
    IfOk-weaker c.product.result
    (λ (to : Vec ℕ Global). AddsProduct code code1 a b ((ones b + 1) * length a) to.items)
    (λ (to : Vec ℕ Global). AddsProduct code code1 a b (product_cost (length a)) to.items)
    (λ to x. product_within code code1 a b ((ones b + 1) * length a) (product_cost (length a)) to.items c.requires.room_a.constants (cheap_fits b (length a) (sym c.requires.alike) cheap) x)
    c.product.ensures

pub returns-else-is_cheap : goal.returns-else-is_cheap
returns-else-is_cheap c =
    let code = c.args.code.now in
    let code1 = c.product-else-is_cheap.new.code in
    let a = c.args.a.now in
    let b = c.args.b.now in
    let cheap : IsCheap a = other_cheap a b c.requires.cheap (λ h. true≢false (sym (c.is_cheap.ensures.1 h) ∙ c.if-is_cheap.false)) in
    IfOk-weaker c.product-else-is_cheap.result
    (λ (to : Vec ℕ Global). AddsProduct code code1 b a ((ones a + 1) * length b) to.items)
    (λ (to : Vec ℕ Global). AddsProduct code code1 a b (product_cost (length a)) to.items)
    (λ to x. product_swapped code code1 a b (product_cost (length a)) to.items c.requires.room_a.constants c.requires.alike
    (product_within code code1 b a ((ones a + 1) * length b) (product_cost (length a)) to.items c.requires.room_a.constants (other_fits a b c.requires.alike cheap) x))
    c.product-else-is_cheap.ensures
