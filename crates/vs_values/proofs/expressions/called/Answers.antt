use Rattle.std.proofs.Common.{◌≡◌, ◌∙◌, ℕ, List, [], ◌∷◌, sym, ap, subst, arith}
use Rattle.vs_design.specs.Expressions as E
use Rattle.vs_code.specs.declared.kernels.AnyKernel.{AnyKernel}
use Rattle.vs_code.specs.Calls.{IsCall, call_cost}
use Rattle.vs_values.specs.Added.{fresh_call}
use Rattle.vs_values.specs.Coded.{Coding, with_call}
use Rattle.vs_values.specs.Choices.{binary_kernel, result_of_way}
use Rattle.vs_values.proofs.expressions.called.Goals as goal

same_call : (k k' : AnyKernel) (args args' : List (List ℕ)) (n w w' : ℕ) → k ≡ k' → args ≡ args' → w ≡ w' → fresh_call k args n w ≡ fresh_call k' args' n w'
same_call k k' args args' n w w' a b c =
    ap (λ (x : AnyKernel). fresh_call x args n w) a ∙ ap (λ (x : List (List ℕ)). fresh_call k' x n w) b ∙ ap (λ (x : ℕ). fresh_call k' args' n x) c

same_code : (code : Coding) (k k' : AnyKernel) (args args' : List (List ℕ)) (w w' : ℕ) → k ≡ k' → args ≡ args' → w ≡ w' → with_call code k args w ≡ with_call code k' args' w'
same_code code k k' args args' w w' a b c =
    ap (λ (x : AnyKernel). with_call code x args w) a ∙ ap (λ (x : List (List ℕ)). with_call code k' x w) b ∙ ap (λ (x : ℕ). with_call code k' args' x) c

pub call-requires-clause-is : goal.call-requires-clause-is
call-requires-clause-is c =
    subst IsCall (sym (same_call c.binary_kernel.result _ c.in_ok-args.args _ c.args.code.now.next c.result_width.result _ c.binary_kernel.ensures c.in_ok-args.ensures c.result_width.ensures)) c.requires.is

pub call-requires-clause-slots : goal.call-requires-clause-slots
call-requires-clause-slots c = omega (arith, c.requires.slots, c.result_width.ensures)

pub call-requires-clause-few : goal.call-requires-clause-few
call-requires-clause-few c =
    let e = ap call_cost (same_call c.binary_kernel.result (binary_kernel c.args.op c.args.signed) c.in_ok-args.args (c.args.a.items ∷ c.args.b.items ∷ []) c.args.code.now.next c.result_width.result (result_of_way (E.way c.args.op) c.args.context.width) c.binary_kernel.ensures c.in_ok-args.ensures c.result_width.ensures) in
    omega (arith, e, c.requires.few)
