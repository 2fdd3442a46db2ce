use Rattle.std.proofs.Common.{drop, ap, ◌∙◌}
use Rattle.std.proofs.lemmas.List.{take_rest}
use Rattle.vs_elab.proofs.functions.own_signals.Goals as goal

pub returns : goal.returns
returns c = take_rest c.deref.result.now c.args.locals.now.inputs ∙ ap (drop c.args.locals.now.inputs) c.deref.ensures.value
