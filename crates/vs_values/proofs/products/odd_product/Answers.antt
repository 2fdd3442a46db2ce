use Rattle.std.proofs.Common.{Vec, Global, ◌≡◌, ◌∙◌, ◌+◌, ◌*◌, ◌∷◌, [], ℕ, List, length, ap}
use Rattle.std.specs.List.{range_with_len}
use Rattle.std.proofs.lemmas.Result.{IfOk-weaker}
use Rattle.vs_four.specs.Shifts.{move_up}
use Rattle.vs_kern_arith.specs.declared.costs.Kernel.TheVariants as A
use Rattle.vs_code.specs.declared.kernels.AnyKernel.TheVariants.{Arith}
use Rattle.vs_values.specs.Coded.{with_call}
use Rattle.vs_values.specs.Products.{AddsProduct, ones}
use Rattle.vs_values.proofs.Binary.{both_ok}
use Rattle.vs_values.proofs.Summed.{product_odd}
use Rattle.vs_values.proofs.products.odd_product.Goals as goal

pub returns : goal.returns
returns c =
    let code = c.args.code.now in
    let code1 = c.copies.new.code in
    let code2 = c.doubled_and.new.code in
    let a = c.args.a.now in
    let higher = c.args.higher.now in
    let sum = c.in_ok-sum.sum.items in
    let slice = c.as_slice.result.now in
    let P = λ (to : Vec ℕ Global). to.items ≡ range_with_len code1.next (length a) in
    let Q = code2 ≡ with_call code1 (Arith A.Add) (move_up 0 1 slice ∷ a ∷ []) (length a) in
    IfOk-weaker c.doubled_and.result
    (λ (to : Vec ℕ Global). P to × Q)
    (λ (to : Vec ℕ Global). AddsProduct code code2 a (1 ∷ higher) ((ones (1 ∷ higher) + 1) * length a) to.items)
    (λ to h. product_odd code code1 code2 a higher sum to.items c.requires.room c.requires.constant c.requires.known c.requires.some c.in_ok-sum.ensures
    (h.1 ∙ ap (λ (x : List ℕ). with_call code1 (Arith A.Add) (move_up 0 1 x ∷ a ∷ []) (length a)) c.as_slice.ensures.value) h.0)
    (both_ok c.doubled_and.result P Q c.doubled_and.ensures.to c.doubled_and.ensures.ok)
