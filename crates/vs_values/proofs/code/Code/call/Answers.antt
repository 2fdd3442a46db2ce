use Rattle.std.proofs.Common.{◌≡◌, ◌∙◌, ◌+◌, ◌++◌, List, ℕ, [], ◌∷◌, ap, sym, subst₂, arith}
use Rattle.std.specs.List.{range_with_len}
use Rattle.vs_code.specs.declared.kernels.AnyKernel.{AnyKernel}
use Rattle.vs_code.specs.Calls.{Call, IsCall, call_cost, length_of}
use Rattle.vs_values.specs.Added.{fresh_call}
use Rattle.vs_values.specs.Coded.{Coding}
use Rattle.vs_values.proofs.code.Code.call.Goals as goal

abbrev call_of : AnyKernel → List (List ℕ) → List ℕ → List ℕ → Call
call_of kernel args to scratch = record { kernel = kernel; args = args; to = to; scratch = scratch }

abbrev coding : List Call → ℕ → Coding
coding calls next = record { calls = calls; next = next }

pub push-requires-clause-call : goal.push-requires-clause-call
push-requires-clause-call c =
    let n : c.self.inside.next ≡ c.args.self.now.next = ap (λ (x : Coding). x.next) c.self.view_is in
    let to : range_with_len c.args.self.now.next c.args.width ≡ c.of.result = sym (c.of.ensures ∙ c.in_ok-written.ensures ∙ ap (λ (k : ℕ). range_with_len k c.args.width) n) in
    let scratch : [] ≡ c.of-2.result = sym (c.of-2.ensures ∙ c.new.ensures.items) in
    subst₂ (λ (t s : List ℕ). IsCall (call_of c.args.kernel c.args.args t s)) to scratch c.requires.is

pub push-requires-clause-few : goal.push-requires-clause-few
push-requires-clause-few c =
    let n : c.self.inside.next ≡ c.args.self.now.next = ap (λ (x : Coding). x.next) c.self.view_is in
    let p : length_of c.self.inside.program ≡ length_of c.args.self.now.calls = ap (λ (x : Coding). length_of x.calls) c.self.view_is in
    let to : range_with_len c.args.self.now.next c.args.width ≡ c.of.result = sym (c.of.ensures ∙ c.in_ok-written.ensures ∙ ap (λ (k : ℕ). range_with_len k c.args.width) n) in
    let cost : call_cost (call_of c.args.kernel c.args.args c.of.result c.of-2.result) ≡ call_cost (fresh_call c.args.kernel c.args.args c.args.self.now.next c.args.width) =
    sym (ap (λ (t : List ℕ). call_cost (call_of c.args.kernel c.args.args t [])) to) in
    omega (arith, p, cost, c.requires.few)

pub returns-clause-to : goal.returns-clause-to
returns-clause-to c = c.in_ok-to.ensures ∙ ap (λ (x : Coding). range_with_len x.next c.args.width) c.self.view_is

pub returns-clause-ok : goal.returns-clause-ok
returns-clause-ok c =
    let n : c.self.inside.next ≡ c.args.self.now.next = ap (λ (x : Coding). x.next) c.self.view_is in
    let to : range_with_len c.args.self.now.next c.args.width ≡ c.of.result = sym (c.of.ensures ∙ c.in_ok-written.ensures ∙ ap (λ (k : ℕ). range_with_len k c.args.width) n) in
    let scratch : [] ≡ c.of-2.result = sym (c.of-2.ensures ∙ c.new.ensures.items) in
    let call : call_of c.args.kernel c.args.args c.of.result c.of-2.result ≡ fresh_call c.args.kernel c.args.args c.args.self.now.next c.args.width =
    sym (ap (λ (t : List ℕ). call_of c.args.kernel c.args.args t []) to ∙ ap (λ (s : List ℕ). call_of c.args.kernel c.args.args c.of.result s) scratch) in
    let calls : c.push.new.self ≡ c.args.self.now.calls ++ fresh_call c.args.kernel c.args.args c.args.self.now.next c.args.width ∷ [] =
    c.in_ok-push.ensures.ok ∙ ap (λ (x : Coding). x.calls ++ call_of c.args.kernel c.args.args c.of.result c.of-2.result ∷ []) c.self.view_is ∙ ap (λ (x : Call). c.args.self.now.calls ++ x ∷ []) call in
    ap (λ (cs : List Call). coding cs (c.self.inside.next + c.args.width)) calls
    ∙ ap (λ (k : ℕ). coding (c.args.self.now.calls ++ fresh_call c.args.kernel c.args.args c.args.self.now.next c.args.width ∷ []) (k + c.args.width)) n
