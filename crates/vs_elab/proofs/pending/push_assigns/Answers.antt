use Rattle.std.proofs.Common.{◌++◌, List, map, sym, ap, ◌∙◌}
use Rattle.std.proofs.lemmas.List.{append-nil, take_all}
use Rattle.vs_ast.specs.declared.items.Assign.{Assign}
use Rattle.vs_ast.specs.Views as view
use Rattle.vs_elaborated.specs.Pieces.{all_said}
use Rattle.vs_elaborated.specs.Surveys.{assign_said}
use Rattle.vs_elab.specs.Fine.{IsFineAssign}
use Rattle.vs_elab.specs.Pending.{parts_pieces}
use Rattle.vs_elab.proofs.Sequences.{each_at}
use Rattle.vs_elab.proofs.FineParts.{part_fine}
use Rattle.vs_elab.proofs.PendingParts.{part_more, said_more}
use Rattle.vs_elab.proofs.pending.push_assigns.Goals as goal

pub loop-assign-init : goal.loop-assign-init
loop-assign-init c = record { pieces = λ source around. sym (append-nil (parts_pieces source around c.args.parts.now.items)); fine = λ source env all old. old }

pub loop-assign-preserved : goal.loop-assign-preserved
loop-assign-preserved c = record {
  pieces = λ source around.
      said_more (assign_said around.env c.args.place) view.assign c.args.assigns.now c.loop-assign.assign-index c.assign-item.result (parts_pieces source around c.args.parts.now.items) _ _ c.loop-assign-test.true c.assign-item.is
      (c.loop-assign.invariant.pieces source around) (part_more source around c.loop-assign.parts.items c.push.new.self.items _ c.in_ok-push.ensures.items);
  fine = λ source env all old.
      part_fine source env c.loop-assign.parts.items c.push.new.self.items _ c.in_ok-push.ensures.items (c.loop-assign.invariant.fine source env all old)
      (each_at (IsFineAssign env) view.assign c.args.assigns.now c.loop-assign.assign-index c.assign-item.result c.loop-assign-test.true c.assign-item.is all);
}

pub returns : goal.returns
returns c = record {
  pieces = λ source around.
      c.loop-assign.invariant.pieces source around
      ∙ ap (λ (xs : List Assign). parts_pieces source around c.args.parts.now.items ++ (all_said (assign_said around.env c.args.place) (map view.assign xs)).pieces) (take_all c.loop-assign.assign-index c.args.assigns.now c.loop-assign-test.false);
  fine = c.loop-assign.invariant.fine;
}
