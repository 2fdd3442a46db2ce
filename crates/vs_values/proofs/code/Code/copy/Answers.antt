use Rattle.std.proofs.Common.{◌≡◌, ◌∙◌, ◌++◌, List, ℕ, [], ◌∷◌, ap, sym, subst, arith}
use Rattle.vs_kern_logic.specs.declared.costs.Kernel.TheVariants as L
use Rattle.vs_code.specs.declared.kernels.AnyKernel.TheVariants.{Logic}
use Rattle.vs_code.specs.Calls.{Call, IsCall, call_cost, length_of}
use Rattle.vs_values.specs.Coded.{Coding}
use Rattle.vs_values.specs.Added.{copy_call}
use Rattle.vs_values.proofs.code.Code.copy.Goals as goal

abbrev call_of : List (List ℕ) → List ℕ → List ℕ → Call
call_of args to scratch = record { kernel = Logic L.Copy; args = args; to = to; scratch = scratch }

call_is : (args : List (List ℕ)) (from to slots scratch : List ℕ) → args ≡ (from ∷ []) → slots ≡ to → scratch ≡ [] → call_of args slots scratch ≡ copy_call from to
call_is args from to slots scratch a b d =
    ap (λ (x : List (List ℕ)). call_of x slots scratch) a ∙ ap (λ (x : List ℕ). call_of (from ∷ []) x scratch) b ∙ ap (λ (x : List ℕ). call_of (from ∷ []) to x) d

pub push-requires-clause-call : goal.push-requires-clause-call
push-requires-clause-call c =
    subst IsCall (sym (call_is c.in_ok-args.args c.args.from.items c.args.to.items c.of.result c.of-2.result c.in_ok-args.ensures c.of.ensures (c.of-2.ensures ∙ c.new.ensures.items))) c.requires.is

pub push-requires-clause-few : goal.push-requires-clause-few
push-requires-clause-few c =
    let call = call_is c.in_ok-args.args c.args.from.items c.args.to.items c.of.result c.of-2.result c.in_ok-args.ensures c.of.ensures (c.of-2.ensures ∙ c.new.ensures.items) in
    let p : length_of c.self.inside.program ≡ length_of c.args.self.now.calls = ap (λ (x : Coding). length_of x.calls) c.self.view_is in
    omega (arith, p, ap (λ (x : Call). call_cost x) call, c.requires.few)

pub returns-clause-calls : goal.returns-clause-calls
returns-clause-calls c =
    let call = call_is c.in_ok-args.args c.args.from.items c.args.to.items c.of.result c.of-2.result c.in_ok-args.ensures c.of.ensures (c.of-2.ensures ∙ c.new.ensures.items) in
    c.in_ok-push.ensures.ok ∙ ap (λ (x : Coding). x.calls ++ call_of c.in_ok-args.args c.of.result c.of-2.result ∷ []) c.self.view_is ∙ ap (λ (x : Call). c.args.self.now.calls ++ x ∷ []) call

pub returns-clause-next : goal.returns-clause-next
returns-clause-next c = ap (λ (x : Coding). x.next) c.self.view_is
