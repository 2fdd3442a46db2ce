use Rattle.std.proofs.Common.{◌≡◌, ◌<◌, ℕ, length, slice_get, List, arith, ap, ◌∙◌, subst}
use Rattle.vs_const.specs.Meanings.{FunctionMeaning, AFunction, IsShapeIn, Means}
use Rattle.vs_const.specs.Mentions.{called_mentions}
use Rattle.vs_const.specs.MentionViews.{all_told}
use Rattle.vs_const.proofs.Mentioning.{one_passed, none_passed}
use Rattle.vs_const.proofs.mentions.push_called.Goals as goal
use Rattle.vs_const.proofs.mentions.push_called.Goals.{in-Some+in_ok-push, in_default}

pub loop-n-preserved : goal.loop-n-preserved
loop-n-preserved g c =
    let find = g.E.Env.names c.args.env.now in
    let m = find c.args.name.now.text in
    let count = c.passed_count-count.ensures m (subst (λ (text : List ℕ). Means c.find.result (find text)) c.as_slice.ensures c.find.ensures) in
    let less : c.loop-n.n < length (called_mentions m) = omega (arith, count, c.loop-n-test.true) in
    let shape = subst (λ (text : List ℕ). (f : FunctionMeaning) → find text ≡ AFunction f → IsShapeIn c.passed.result (slice_get f.passed c.loop-n.n)) c.as_slice-in-loop-n.ensures c.passed.ensures in
    elim c.match-passed.branch [
      | in-Some+in_ok-push w ↦ one_passed c.loop-n.n m c.passed.result w.in-Some.signal c.loop-n.list.items c.match-passed.list.items (all_told c.args.list.now.items) less shape w.in-Some.is c.loop-n.invariant (ap (λ v. v.items) w.list-is ∙ w.in_ok-push.ensures.items)
      | in_default w ↦ absurd (none_passed c.loop-n.n m c.passed.result less shape w.in_default.is)
    ]
