use Rattle.std.proofs.Common.{◌++◌, ◌+◌, List, Some, map, take, refl, sym, ◌∙◌, subst}
use Rattle.std.proofs.lemmas.List.{take_all}
use Rattle.vs_ast.specs.declared.items.Instance.{Instance}
use Rattle.vs_ast.specs.Views as view
use Rattle.vs_elaborated.specs.Environments.{no_env}
use Rattle.vs_elaborated.specs.Pieces.{OfModule, Instance as InstancePiece, all_said}
use Rattle.vs_elaborated.specs.Instances.{instance_said, said_connections}
use Rattle.vs_items.specs.Counts.{IsCounted}
use Rattle.vs_items.proofs.CountSteps.{counted_nothing, counted_list}
use Rattle.vs_items.proofs.counts.count_all.Goals as goal

pub loop-i-init : goal.loop-i-init
loop-i-init c = record { most = refl; counted = λ m around os before ps a h. counted_nothing c.args.count.now before ps h }

pub loop-i-preserved : goal.loop-i-preserved
loop-i-preserved c = record {
  most = c.add.ensures.most ∙ c.loop-i.invariant.most;
  counted = λ m around os before ps a h.
      let i = view.instance c.i-item.result in
      counted_list (instance_said around c.args.place (Some m) os) view.instance c.args.instances.now c.loop-i.i-index c.i-item.result c.add.new.self before ps c.loop-i-test.true c.i-item.is
      (c.add.ensures.counted before (ps ++ (all_said (instance_said around c.args.place (Some m) os) (map view.instance (take c.loop-i.i-index c.args.instances.now))).pieces)
      (InstancePiece (said_connections (Some m) i.name i.connections around.env).connections (record { name = i.name.bytes; parent = Some around.scope; contents = OfModule m os; depth = around.depth + 1; place = c.args.place; env = no_env }))
      (c.loop-i.invariant.counted m around os before ps a h) (sym (c.in_ok-n.ensures m i.name around.env a)) refl);
}

pub returns-clause-most : goal.returns-clause-most
returns-clause-most c = c.loop-i.invariant.most

pub returns-clause-counted : goal.returns-clause-counted
returns-clause-counted c = λ m around os before ps a h.
    subst (λ (xs : List Instance). IsCounted c.loop-i.count before (ps ++ (all_said (instance_said around c.args.place (Some m) os) (map view.instance xs)).pieces)) (take_all c.loop-i.i-index c.args.instances.now c.loop-i-test.false)
    (c.loop-i.invariant.counted m around os before ps a h)
