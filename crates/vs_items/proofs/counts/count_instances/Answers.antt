use Rattle.std.proofs.Common.{◌++◌, List, Option, Some, map, subst, OnOk}
use Rattle.vs_grammar.specs.Trees as tree
use Rattle.vs_ast.specs.declared.items.Instance.{Instance}
use Rattle.vs_ast.specs.Views as view
use Rattle.vs_elaborated.specs.Pieces.{all_said}
use Rattle.vs_elaborated.specs.Ports.{find_module}
use Rattle.vs_elaborated.specs.Instances.{instance_said, said_overrides}
use Rattle.vs_items.specs.Counts.{IsCounted}
use Rattle.vs_items.specs.Interfaces.{IsKnown}
use Rattle.vs_items.proofs.CountSteps.{unknown_counted, known_counted}
use Rattle.vs_items.proofs.counts.count_instances.Goals as goal

pub returns-in-None-clause-counted : goal.returns-in-None-clause-counted
returns-in-None-clause-counted c = λ source around before ps a h.
    unknown_counted source around (view.instances c.args.t.now) c.args.count.now before ps
    (subst (λ o. IsKnown o (find_module source (view.instances c.args.t.now).of.bytes)) c.in-None.is (c.seen_by.ensures source a)) h

pub returns-in-Some-clause-counted : goal.returns-in-Some-clause-counted
returns-in-Some-clause-counted c = λ source around before ps a h.
    let t = view.instances c.args.t.now in
    known_counted c.in-Some.seen (find_module source t.of.bytes) (subst (λ o. IsKnown o (find_module source t.of.bytes)) c.in-Some.is (c.seen_by.ensures source a))
    (λ (o : Option tree.Module). OnOk c.count_all.result (IsCounted c.count_all.new.count before (ps ++ (all_said (instance_said around t.of.place o (said_overrides t.of o t.overrides around.env).overrides) t.instances).pieces)))
    (λ m i. subst (λ (xs : List Instance). OnOk c.count_all.result (IsCounted c.count_all.new.count before (ps ++ (all_said (instance_said around t.of.place (Some m) (said_overrides t.of (Some m) t.overrides around.env).overrides) (map view.instance xs)).pieces)))
    c.deref.ensures.value (c.count_all.ensures.counted m around (said_overrides t.of (Some m) t.overrides around.env).overrides before ps i h))
