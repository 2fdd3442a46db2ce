use Rattle.std.proofs.Common.{List, [], ◌∷◌, ◌++◌, sym, subst, ap, ◌∙◌}
use Rattle.vs_program.specs.declared.compiled.Run.{Run}
use Rattle.vs_assemble.specs.Runs.{AreJoinedRuns}
use Rattle.vs_assemble.proofs.Joining.{merged, one_more}
use Rattle.vs_assemble.proofs.runs.push.Goals as goal

pub returns-in_ok-push-in-Some : goal.returns-in_ok-push-in-Some
returns-in_ok-push-in-Some c =
    let init : List Run = c.pop.new.self.items in
    let last : Run = c.in-Some.last in
    subst (λ rs. AreJoinedRuns c.args.runs.now.items (c.args.run ∷ []) rs) (sym c.in_ok-push-in-Some.ensures.items)
    (subst (λ rs. AreJoinedRuns rs (c.args.run ∷ []) (init ++ (record { from = last.from; to = c.args.run.to }) ∷ [])) (sym c.in-Some.ensures.items)
    (merged init last c.args.run c.if-last-run.true))

pub returns-in_ok-push-in-Some-3 : goal.returns-in_ok-push-in-Some-3
returns-in_ok-push-in-Some-3 c =
    let items = c.in_ok-push-in-Some-3.ensures.items ∙ ap (λ rs. rs ++ c.args.run ∷ []) (c.in_ok-push-in-Some-2.ensures.items ∙ sym c.in-Some.ensures.items) in
    subst (λ rs. AreJoinedRuns c.args.runs.now.items (c.args.run ∷ []) rs) (sym items) (one_more c.args.runs.now.items c.args.run)
