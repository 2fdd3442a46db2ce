use Rattle.std.proofs.Common.{◌++◌, List, map, sym, ap, ◌∙◌}
use Rattle.std.proofs.lemmas.List.{append-nil, take_all}
use Rattle.vs_ast.specs.declared.items.Signals.{Signals}
use Rattle.vs_ast.specs.Views as view
use Rattle.vs_elaborated.specs.Pieces.{all_said}
use Rattle.vs_elaborated.specs.Surveys.{signals_said}
use Rattle.vs_elab.specs.Fine.{AreFineSignals}
use Rattle.vs_elab.specs.Pending.{parts_pieces}
use Rattle.vs_elab.proofs.Sequences.{each_at}
use Rattle.vs_elab.proofs.PendingParts.{said_more}
use Rattle.vs_elab.proofs.pending.push_ports.Goals as goal

pub loop-s-init : goal.loop-s-init
loop-s-init c = record { pieces = λ source around. sym (append-nil (parts_pieces source around c.args.parts.now.items)); fine = λ source env all old. old }

pub loop-s-preserved : goal.loop-s-preserved
loop-s-preserved c = record {
  pieces = λ source around.
      said_more (signals_said around.env) view.signals c.args.ports.now c.loop-s.s-index c.s-item.result (parts_pieces source around c.args.parts.now.items) _ _ c.loop-s-test.true c.s-item.is
      (c.loop-s.invariant.pieces source around) (c.in_ok-push_signals.ensures.pieces source around);
  fine = λ source env all old.
      c.in_ok-push_signals.ensures.fine source env
      (each_at (AreFineSignals env) view.signals c.args.ports.now c.loop-s.s-index c.s-item.result c.loop-s-test.true c.s-item.is all)
      (c.loop-s.invariant.fine source env all old);
}

pub returns : goal.returns
returns c = record {
  pieces = λ source around.
      c.loop-s.invariant.pieces source around
      ∙ ap (λ (xs : List Signals). parts_pieces source around c.args.parts.now.items ++ (all_said (signals_said around.env) (map view.signals xs)).pieces) (take_all c.loop-s.s-index c.args.ports.now c.loop-s-test.false);
  fine = c.loop-s.invariant.fine;
}
