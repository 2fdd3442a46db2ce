use Rattle.std.proofs.Common.{◌≡◌, ◌<◌, ◌≤◌, ℕ, suc, ◌+◌, take, slice_get, true, not, is_some, refl, sym, ap, ◌∙◌, subst, arith}
use Rattle.vs_const.specs.Meanings.{IsShapeIn}
use Rattle.vs_elaborated.specs.Functions.{passed_on}
use Rattle.vs_scope.specs.Locals.{input_of}
use Rattle.vs_scope.proofs.HandedOn.{hands_more, hands_all, hands_not, there_is, is_there}
use Rattle.vs_scope.proofs.inside.Inside.hands_on.Goals as goal

pub loop-n-init : goal.loop-n-init
loop-n-init c = record { all = λ f is many. refl }

pub loop-n-preserved : goal.loop-n-preserved
loop-n-preserved c = record {
  all = λ f is many.
      let input = input_of c.args.self.now.locals in
      let n = c.loop-n.n in
      let s = subst (λ o. IsShapeIn o (slice_get f.passed n)) c.in-Some.is (c.passed.ensures f is) in
      let on : suc n ≡ n + 1 = omega arith in
      subst (λ (k : ℕ). is_some (passed_on input (take k f.passed)) ≡ true) on
      (hands_more input f.passed n s.0 s.1
      (ap (λ (k : ℕ). is_some (input k)) (sym s.2.number) ∙ is_there c.input.result (input c.in-Some.s.number) c.input.ensures ∙ (c.is_none.ensures ∙ ap not c.if-is_none.false)) (c.loop-n.invariant.all f is many));
}

pub returns-in-None : goal.returns-in-None
returns-in-None c = λ f is many.
    let none = subst (λ o. IsShapeIn o (slice_get f.passed c.loop-n.n)) c.in-None.is (c.passed.ensures f is) in
    absurd (there_is f.passed c.loop-n.n (subst (λ (k : ℕ). c.loop-n.n < k) many c.loop-n-test.true) none)

pub returns-then-is_none : goal.returns-then-is_none
returns-then-is_none c = λ f is many.
    let input = input_of c.args.self.now.locals in
    let s = subst (λ o. IsShapeIn o (slice_get f.passed c.loop-n.n)) c.in-Some.is (c.passed.ensures f is) in
    sym (hands_not input f.passed c.loop-n.n s.0 s.1 (ap (λ (k : ℕ). is_some (input k)) (sym s.2.number) ∙ is_there c.input.result (input c.in-Some.s.number) c.input.ensures ∙ (c.is_none.ensures ∙ ap not c.if-is_none.true)))

pub returns : goal.returns
returns c = λ f is many.
    sym (hands_all (input_of c.args.self.now.locals) f.passed c.loop-n.n (subst (λ (k : ℕ). k ≤ c.loop-n.n) many c.loop-n-test.false) (c.loop-n.invariant.all f is many))
