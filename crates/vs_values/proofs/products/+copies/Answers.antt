use Rattle.std.proofs.Common.{Vec, Global, ◌≡◌, ◌∙◌, ◌∷◌, [], ℕ, List, replicate, length, sym, ap}
use Rattle.std.specs.List.{range_with_len}
use Rattle.std.proofs.lemmas.Result.{IfOk-weaker}
use Rattle.vs_four.specs.Shifts.{move_up}
use Rattle.vs_kern_arith.specs.declared.costs.Kernel.TheVariants as A
use Rattle.vs_code.specs.declared.kernels.AnyKernel.TheVariants.{Arith}
use Rattle.vs_values.specs.Coded.{with_call}
use Rattle.vs_values.specs.Products.{AddsCopies}
use Rattle.vs_values.proofs.Binary.{both_ok}
use Rattle.vs_values.proofs.Summed.{empty_is, copies_none, copies_moved, copies_first, copies_sum}
use Rattle.vs_values.proofs.products.+copies.Goals as goal

pub returns-in_default : goal.returns-in_default
returns-in_default t c =
    let code = c.args.code.now in
    let a = c.args.a.now in
    IfOk-weaker c.repeated.result
    (λ (to : Vec ℕ Global). to.items ≡ replicate (length a) 0)
    (λ (to : Vec ℕ Global). AddsCopies code code a c.args.c.now to.items)
    (λ to h. copies_none code a c.args.c.now to.items c.requires.room.constants (empty_is c.args.c.now c.in_default.ensures.cases) h)
    c.repeated.ensures

pub returns-then-bit-ne1 : goal.returns-then-bit-ne1
returns-then-bit-ne1 t c =
    let code = c.args.code.now in
    let code1 = c.copies.new.code in
    let a = c.args.a.now in
    let sum = c.in_ok-sum.sum.items in
    let slice = c.as_slice.result.now in
    IfOk-weaker c.raised.result
    (λ (to : Vec ℕ Global). to.items ≡ move_up 0 1 slice)
    (λ (to : Vec ℕ Global). AddsCopies code code1 a c.args.c.now to.items)
    (λ to h. copies_moved code code1 a c.args.c.now c.in-Some.higher.now sum to.items c.in-Some.bit.now c.requires.room.constants c.in-Some.ensures.cases.0 c.requires.known c.if-bit-ne1.true c.in_ok-sum.ensures
    (h ∙ ap (λ (x : List ℕ). move_up 0 1 x) c.as_slice.ensures.value))
    c.raised.ensures

pub returns-then-ones-eq0 : goal.returns-then-ones-eq0
returns-then-ones-eq0 t c =
    let code = c.args.code.now in
    let code1 = c.copies.new.code in
    let a = c.args.a.now in
    let sum = c.in_ok-sum.sum.items in
    IfOk-weaker c.to_vec.result
    (λ (to : Vec ℕ Global). ((x y : ℕ) → y ≡ x → y ≡ x) → to.items ≡ a)
    (λ (to : Vec ℕ Global). AddsCopies code code1 a c.args.c.now to.items)
    (λ to h. copies_first code code1 a c.args.c.now c.in-Some.higher.now sum to.items c.in-Some.bit.now c.requires.room.constants c.requires.room.below c.in-Some.ensures.cases.0 c.requires.known c.if-bit-ne1.false
    (sym c.ones.ensures ∙ c.if-ones-eq0.true) c.in_ok-sum.ensures (h (λ x y e. e)))
    c.to_vec.ensures.items_if_clones_equal

pub returns : goal.returns
returns t c =
    let code = c.args.code.now in
    let code1 = c.copies.new.code in
    let code2 = c.doubled_and.new.code in
    let a = c.args.a.now in
    let sum = c.in_ok-sum.sum.items in
    let slice = c.as_slice-2.result.now in
    let P = λ (to : Vec ℕ Global). to.items ≡ range_with_len code1.next (length a) in
    let Q = code2 ≡ with_call code1 (Arith A.Add) (move_up 0 1 slice ∷ a ∷ []) (length a) in
    IfOk-weaker c.doubled_and.result
    (λ (to : Vec ℕ Global). P to × Q)
    (λ (to : Vec ℕ Global). AddsCopies code code2 a c.args.c.now to.items)
    (λ to h. copies_sum code code1 code2 a c.args.c.now c.in-Some.higher.now sum to.items c.in-Some.bit.now c.requires.room c.in-Some.ensures.cases.0 c.requires.known c.if-bit-ne1.false
    (λ z. c.if-ones-eq0.false (c.ones.ensures ∙ z)) c.in_ok-sum.ensures
    (h.1 ∙ ap (λ (x : List ℕ). with_call code1 (Arith A.Add) (move_up 0 1 x ∷ a ∷ []) (length a)) c.as_slice-2.ensures.value) h.0)
    (both_ok c.doubled_and.result P Q c.doubled_and.ensures.to c.doubled_and.ensures.ok)
