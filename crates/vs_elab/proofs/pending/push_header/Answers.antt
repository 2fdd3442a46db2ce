use Rattle.std.proofs.Common.{◌≡◌, ◌++◌, List, OnOk, map, sym, ap, ◌∙◌, subst}
use Rattle.vs_grammar.specs.Trees as tree
use Rattle.vs_ast.specs.declared.items.Signals.{Signals}
use Rattle.vs_ast.specs.Views as view
use Rattle.vs_elaborated.specs.Surveys.{ports_said}
use Rattle.vs_elab.specs.Fine.{IsFineHeader}
use Rattle.vs_elab.specs.Pending.{parts_pieces}
use Rattle.vs_elab.proofs.PendingParts.{other_header}
use Rattle.vs_elab.proofs.pending.push_header.Goals as goal

pub returns-in-Declared : goal.returns-in-Declared
returns-in-Declared c =
    let is = ap view.header c.in-Declared.is ∙ ap (λ (xs : List Signals). tree.DeclaredPorts (map view.signals xs)) (sym c.deref.ensures.value) in
    record {
      pieces = λ source around.
          subst (λ (h : tree.Header). OnOk c.push_ports.result (parts_pieces source around c.push_ports.new.parts.items ≡ parts_pieces source around c.args.parts.now.items ++ (ports_said around.env h).pieces)) (sym is)
          (c.push_ports.ensures.pieces source around);
      fine = λ source env f. c.push_ports.ensures.fine source env (subst (IsFineHeader env) is f);
    }

pub returns-in_default : goal.returns-in_default
returns-in_default c = record {
  pieces = λ source around. other_header around.env c.args.header.now c.in_default.not-Declared (parts_pieces source around c.args.parts.now.items);
  fine = λ source env f old. old;
}
