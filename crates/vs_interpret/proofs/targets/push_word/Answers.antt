use Rattle.std.proofs.Common.{length, ap, ◌++◌, ◌∙◌}
use Rattle.vs_interpret.proofs.TargetSteps.{word_run, no_word}
use Rattle.vs_interpret.proofs.Results.{on_ok}
use Rattle.vs_interpret.proofs.targets.push_word.Goals as goal

pub returns-in-Some : goal.returns-in-Some
returns-in-Some c = on_ok c.push_run.result c.push_run.ensures (λ e. e ∙ ap (λ ws. c.args.out.now ++ ws) (word_run c.args.first (length c.args.value.now) c.in-Some.n c.args.place c.args.value.now c.in-Some.is))

pub returns-in-None : goal.returns-in-None
returns-in-None c = no_word c.args.out.now c.args.first (length c.args.value.now) c.args.place c.args.value.now c.in-None.is
