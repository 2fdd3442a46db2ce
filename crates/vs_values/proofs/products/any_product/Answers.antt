use Rattle.std.proofs.Common.{Vec, Global, ◌≡◌, ◌∙◌, ◌+◌, ◌*◌, ◌∷◌, [], ℕ, length, sym, refl}
use Rattle.std.specs.List.{range_with_len}
use Rattle.std.proofs.lemmas.Result.{IfOk-weaker}
use Rattle.vs_kern_arith.specs.declared.costs.Kernel.TheVariants as A
use Rattle.vs_code.specs.declared.kernels.AnyKernel.TheVariants.{Arith}
use Rattle.vs_values.specs.Coded.{with_call}
use Rattle.vs_values.specs.Products.{AddsProduct, ones}
use Rattle.vs_values.proofs.Binary.{both_ok}
use Rattle.vs_values.proofs.Summed.{room_any, can_finish, call_at, product_zero, product_any}
use Rattle.vs_values.proofs.products.any_product.Goals as goal

pub zero_if_known-requires : goal.zero_if_known-requires
zero_if_known-requires c = record { room = room_any c.args.code.now c.copies.new.code c.args.a.now c.args.c.now c.in_ok-sum.sum.items c.requires.room c.in_ok-sum.ensures }

pub returns-then-ones-eq0 : goal.returns-then-ones-eq0
returns-then-ones-eq0 c =
    product_zero c.args.code.now c.copies.new.code c.zero_if_known.new.code c.args.a.now c.args.c.now c.in_ok-sum.sum.items c.in_ok-zero.zero.items c.requires.room c.requires.constant c.requires.known
    (sym c.ones.ensures ∙ c.if-ones-eq0.true) c.in_ok-sum.ensures c.in_ok-zero.ensures.ok c.in_ok-zero.ensures.to

pub called-requires : goal.called-requires
called-requires c =
    let code = c.args.code.now in
    let code1 = c.copies.new.code in
    let code2 = c.zero_if_known.new.code in
    let a = c.args.a.now in
    let sum = c.in_ok-sum.sum.items in
    let null = c.in_ok-zero.zero.items in
    record {
      call = call_at code2 (Arith A.Add) sum sum null null _ refl refl c.in_ok-sum.ensures.long
          (can_finish code code1 code2 a c.args.c.now sum null c.requires.room (λ h. c.if-ones-eq0.false (c.ones.ensures ∙ h)) c.in_ok-sum.ensures c.in_ok-zero.ensures.ok c.in_ok-zero.ensures.to).call;
    }

pub returns : goal.returns
returns c =
    let code = c.args.code.now in
    let code1 = c.copies.new.code in
    let code2 = c.zero_if_known.new.code in
    let code3 = c.called.new.code in
    let a = c.args.a.now in
    let sum = c.in_ok-sum.sum.items in
    let null = c.in_ok-zero.zero.items in
    let P = λ (to : Vec ℕ Global). to.items ≡ range_with_len code2.next (length sum) in
    let Q = code3 ≡ with_call code2 (Arith A.Add) (sum ∷ null ∷ []) (length sum) in
    IfOk-weaker c.called.result
    (λ (to : Vec ℕ Global). P to × Q)
    (λ (to : Vec ℕ Global). AddsProduct code code3 a c.args.c.now ((ones c.args.c.now + 1) * length a) to.items)
    (λ to h. product_any code code1 code2 code3 a c.args.c.now sum null to.items c.requires.room c.requires.constant c.requires.known (λ z. c.if-ones-eq0.false (c.ones.ensures ∙ z))
    c.in_ok-sum.ensures c.in_ok-zero.ensures.ok c.in_ok-zero.ensures.to h.1 h.0)
    (both_ok c.called.result P Q c.called.ensures.to c.called.ensures.ok)
