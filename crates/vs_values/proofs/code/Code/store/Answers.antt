use Rattle.std.proofs.Common.{◌≡◌, ◌∙◌, ◌++◌, List, ℕ, [], ◌∷◌, ap, sym, subst, arith}
use Rattle.vs_code.specs.declared.kernels.AnyKernel.{AnyKernel}
use Rattle.vs_code.specs.Calls.{Call, IsCall, call_cost, length_of}
use Rattle.vs_values.specs.Added.{stored_call}
use Rattle.vs_values.specs.Coded.{Coding}
use Rattle.vs_values.proofs.code.Code.store.Goals as goal

abbrev call_of : AnyKernel → List (List ℕ) → List ℕ → List ℕ → Call
call_of kernel args to scratch = record { kernel = kernel; args = args; to = to; scratch = scratch }

call_is : (kernel : AnyKernel) (args : List (List ℕ)) (to slots scratch : List ℕ) → slots ≡ to → scratch ≡ [] → call_of kernel args slots scratch ≡ stored_call kernel args to
call_is kernel args to slots scratch a b = ap (λ (x : List ℕ). call_of kernel args x scratch) a ∙ ap (λ (x : List ℕ). call_of kernel args to x) b

pub push-requires-clause-call : goal.push-requires-clause-call
push-requires-clause-call c = subst IsCall (sym (call_is c.args.kernel c.args.args c.args.to.items c.of.result c.of-2.result c.of.ensures (c.of-2.ensures ∙ c.new.ensures.items))) c.requires.is

pub push-requires-clause-few : goal.push-requires-clause-few
push-requires-clause-few c =
    let call = call_is c.args.kernel c.args.args c.args.to.items c.of.result c.of-2.result c.of.ensures (c.of-2.ensures ∙ c.new.ensures.items) in
    let p : length_of c.self.inside.program ≡ length_of c.args.self.now.calls = ap (λ (x : Coding). length_of x.calls) c.self.view_is in
    omega (arith, p, ap (λ (x : Call). call_cost x) call, c.requires.few)

pub returns-clause-calls : goal.returns-clause-calls
returns-clause-calls c =
    let call = call_is c.args.kernel c.args.args c.args.to.items c.of.result c.of-2.result c.of.ensures (c.of-2.ensures ∙ c.new.ensures.items) in
    c.in_ok-push.ensures.ok ∙ ap (λ (x : Coding). x.calls ++ call_of c.args.kernel c.args.args c.of.result c.of-2.result ∷ []) c.self.view_is ∙ ap (λ (x : Call). c.args.self.now.calls ++ x ∷ []) call

pub returns-clause-next : goal.returns-clause-next
returns-clause-next c = ap (λ (x : Coding). x.next) c.self.view_is
