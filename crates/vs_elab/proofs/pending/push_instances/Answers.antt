use Rattle.std.proofs.Common.{◌++◌, List, map, sym, ap, ◌∙◌, subst}
use Rattle.std.proofs.lemmas.List.{append-nil, take_all}
use Rattle.vs_grammar.specs.Shapes.{Each}
use Rattle.vs_ast.specs.declared.items.Instance.{Instance}
use Rattle.vs_ast.specs.Views as view
use Rattle.vs_elaborated.specs.Pieces.{all_said}
use Rattle.vs_elaborated.specs.Ports.{find_module}
use Rattle.vs_elaborated.specs.Instances.{instance_said, said_overrides}
use Rattle.vs_elab.specs.Fine.{IsFineInstance}
use Rattle.vs_elab.specs.Pending.{parts_pieces}
use Rattle.vs_elab.proofs.Sequences.{each_at}
use Rattle.vs_elab.proofs.FineParts.{part_fine}
use Rattle.vs_elab.proofs.PendingParts.{part_more, said_more}
use Rattle.vs_elab.proofs.pending.push_instances.Goals as goal

pub loop-instance-init : goal.loop-instance-init
loop-instance-init c = record { pieces = λ source around. sym (append-nil (parts_pieces source around c.args.parts.now.items)); fine = λ source env all old. old }

pub loop-instance-preserved : goal.loop-instance-preserved
loop-instance-preserved c = record {
  pieces = λ source around.
      let t = view.instances c.args.item.now in
      let m = find_module source t.of.bytes in
      said_more (instance_said around t.of.place m (said_overrides t.of m t.overrides around.env).overrides) view.instance c.deref-instance-items.result.now c.loop-instance.instance-index c.instance-item.result
      (parts_pieces source around c.args.parts.now.items) _ _ c.loop-instance-test.true c.instance-item.is
      (c.loop-instance.invariant.pieces source around) (part_more source around c.loop-instance.parts.items c.push.new.self.items _ c.in_ok-push.ensures.items);
  fine = λ source env all old.
      part_fine source env c.loop-instance.parts.items c.push.new.self.items _ c.in_ok-push.ensures.items (c.loop-instance.invariant.fine source env all old)
      (each_at (IsFineInstance source env (view.instances c.args.item.now)) view.instance c.deref-instance-items.result.now c.loop-instance.instance-index c.instance-item.result c.loop-instance-test.true c.instance-item.is all);
}

pub returns : goal.returns
returns c = record {
  pieces = λ source around.
      let t = view.instances c.args.item.now in
      let m = find_module source t.of.bytes in
      c.loop-instance.invariant.pieces source around
      ∙ ap (λ (xs : List Instance). parts_pieces source around c.args.parts.now.items ++ (all_said (instance_said around t.of.place m (said_overrides t.of m t.overrides around.env).overrides) (map view.instance xs)).pieces)
      (take_all c.loop-instance.instance-index c.deref-instance-items.result.now c.loop-instance-test.false ∙ c.deref-instance-items.ensures.value);
  fine = λ source env all old.
      c.loop-instance.invariant.fine source env
      (subst (λ (xs : List Instance). Each (IsFineInstance source env (view.instances c.args.item.now)) (map view.instance xs)) (sym c.deref-instance-items.ensures.value) all) old;
}
