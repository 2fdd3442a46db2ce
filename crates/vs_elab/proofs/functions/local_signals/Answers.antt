use Rattle.vs_elab.proofs.Headers.{all_pushed}
use Rattle.vs_elab.proofs.functions.local_signals.Goals as goal

pub returns : goal.returns
returns c =
    all_pushed c.args.locals.now c.declared_inputs.result.now c.own_signals.result.now c.as_slice.result.now c.new-list.result.items c.push_signals.new.list.items c.push_inputs.new.list.items c.push_signals-2.new.list.items
    c.new-list.ensures.items c.declared_inputs.ensures c.as_slice.ensures.value c.own_signals.ensures c.in_ok-push_signals.ensures c.in_ok-push_inputs.ensures c.in_ok-push_signals-2.ensures
