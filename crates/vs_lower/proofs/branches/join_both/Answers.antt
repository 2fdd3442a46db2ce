use Rattle.std.proofs.Common.{◌∙◌, ℕ, List, sym, subst}
use Rattle.vs_lower.specs.Joined.{IsJoinable, IsJoined}
use Rattle.vs_lower.proofs.branches.join_both.Goals as goal

pub join-requires-clause-call : goal.join-requires-clause-call
join-requires-clause-call c =
    subst (λ (x : List ℕ). IsJoinable c.args.condition.items c.args.bits.now x c.args.env.now.values c.args.code.now) (sym c.as_slice-2.ensures.value) c.requires.calls.now_call

pub join-requires-2-clause-call : goal.join-requires-2-clause-call
join-requires-2-clause-call c =
    let bits = c.args.bits.now in
    let ahead = c.args.env.now.ahead in
    let mid = c.join.new.code in
    let j = subst (λ (x : List ℕ). IsJoined c.args.condition.items bits x c.args.env.now.values c.join.new.env c.args.code.now mid) c.as_slice-2.ensures.value c.in_ok-join.ensures in
    subst (λ (x : List ℕ). IsJoinable x bits c.as_slice-3.result.now ahead mid) (sym (c.in_ok-again.ensures.items ∙ c.as_slice.ensures.value))
    (subst (λ (x : List ℕ). IsJoinable c.args.condition.items bits x ahead mid) (sym c.as_slice-3.ensures.value) (c.requires.calls.later_call c.join.new.env mid j))

pub returns : goal.returns
returns c =
    let bits = c.args.bits.now in
    let ahead = c.args.env.now.ahead in
    let mid = c.join.new.code in
    record {
      mid = mid;
      now_joined = subst (λ (x : List ℕ). IsJoined c.args.condition.items bits x c.args.env.now.values c.join.new.env c.args.code.now mid) c.as_slice-2.ensures.value c.in_ok-join.ensures;
      later_joined = subst (λ (x : List ℕ). IsJoined x bits c.args.first.now.ahead.items ahead c.join-2.new.env mid c.join-2.new.code) (c.in_ok-again.ensures.items ∙ c.as_slice.ensures.value)
          (subst (λ (x : List ℕ). IsJoined c.in_ok-again.again.items bits x ahead c.join-2.new.env mid c.join-2.new.code) c.as_slice-3.ensures.value c.in_ok-join-2.ensures);
    }
