use Rattle.std.proofs.Common.{◌++◌, List, map, sym, ap, ◌∙◌}
use Rattle.std.proofs.lemmas.List.{append-nil, take_all}
use Rattle.vs_ast.specs.declared.items.Declarator.{Declarator}
use Rattle.vs_ast.specs.Views as view
use Rattle.vs_elaborated.specs.Pieces.{all_said}
use Rattle.vs_elaborated.specs.Surveys.{declarator_said}
use Rattle.vs_elab.specs.Fine.{IsFineDeclarator}
use Rattle.vs_elab.specs.Pending.{parts_pieces}
use Rattle.vs_elab.proofs.Sequences.{each_at}
use Rattle.vs_elab.proofs.PendingParts.{said_more}
use Rattle.vs_elab.proofs.pending.push_declarators.Goals as goal

pub loop-d-init : goal.loop-d-init
loop-d-init c = record { pieces = λ source around. sym (append-nil (parts_pieces source around c.args.parts.now.items)); fine = λ source env all old. old }

pub loop-d-preserved : goal.loop-d-preserved
loop-d-preserved c = record {
  pieces = λ source around.
      said_more (declarator_said around.env c.args.place (view.signal_kind c.args.kind)) view.declarator c.args.names.now c.loop-d.d-index c.d-item.result (parts_pieces source around c.args.parts.now.items) _ _ c.loop-d-test.true c.d-item.is
      (c.loop-d.invariant.pieces source around) (c.in_ok-push_declarator.ensures.pieces source around);
  fine = λ source env all old.
      c.in_ok-push_declarator.ensures.fine source env
      (each_at (IsFineDeclarator env (view.signal_kind c.args.kind)) view.declarator c.args.names.now c.loop-d.d-index c.d-item.result c.loop-d-test.true c.d-item.is all)
      (c.loop-d.invariant.fine source env all old);
}

pub returns : goal.returns
returns c = record {
  pieces = λ source around.
      c.loop-d.invariant.pieces source around
      ∙ ap (λ (xs : List Declarator). parts_pieces source around c.args.parts.now.items ++ (all_said (declarator_said around.env c.args.place (view.signal_kind c.args.kind)) (map view.declarator xs)).pieces) (take_all c.loop-d.d-index c.args.names.now c.loop-d-test.false);
  fine = c.loop-d.invariant.fine;
}
