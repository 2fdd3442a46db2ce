use Rattle.std.proofs.Common.{◌≡◌, ℕ, List, ◌-◌, ◌≤◌, ◌++◌, length, take, drop, sym, ◌∙◌, ap, subst, arith, length-drop}
use Rattle.std.proofs.lemmas.List.{take_rest}
use Rattle.vs_lexer.specs.declared.token.Token.{Token}
use Rattle.vs_pre.specs.Attributes.{begins_attribute, to_end}
use Rattle.vs_pre.proofs.AttributeFacts.{passed, stays_open}
use Rattle.vs_pre.proofs.attributes.without_attributes.Goals as goal

-- what stands behind the first two tokens from a place on
dropped : (ts : List Token) (at : ℕ) → let rest = take (length ts - at) (drop at ts) in take (length rest - 2) (drop 2 rest) ≡ drop 2 (drop at ts)
dropped ts at = take_rest (take (length ts - at) (drop at ts)) 2 ∙ ap (drop 2) (take_rest ts at)

pub loop-next-preserved : goal.loop-next-preserved
loop-next-preserved c =
    let ts = c.args.tokens.now in
    let at = c.loop-next.next in
    let begins = ap begins_attribute (sym (take_rest ts at)) ∙ sym c.begins_attribute.ensures.value ∙ c.if-not-begins_attribute.false in
    let far : c.in-Some.length ≤ length (drop 2 (drop at ts)) = subst (λ (us : List Token). c.in-Some.length ≤ length us) (dropped ts at) c.in-Some.ensures.within in
    let two : 2 ≤ length (drop at ts) = subst (λ (us : List Token). 2 ≤ length us) (take_rest ts at) (c.begins_attribute.ensures.some c.if-not-begins_attribute.false) in
    record {
      inside = let a = length-drop at ts in let b = length-drop 2 (drop at ts) in omega arith;
      same = passed ts at c.loop-next.kept.items c.loop-next-test.true c.loop-next.invariant.same c.in-Some.length begins (ap to_end (sym (dropped ts at)) ∙ sym c.to_end.ensures.value ∙ c.in-Some.is);
    }

pub returns-in-None : goal.returns-in-None
returns-in-None c =
    let ts = c.args.tokens.now in
    let at = c.loop-next.next in
    let pushed = c.in_ok-extend_from_slice-in-None.ensures.items in
    pushed ∙ ap (λ us. c.loop-next.kept.items ++ us) (take_rest ts at)
    ∙ stays_open ts at c.loop-next.kept.items c.loop-next-test.true c.loop-next.invariant.same (ap to_end (sym (dropped ts at)) ∙ sym c.to_end.ensures.value ∙ c.in-None.is)
