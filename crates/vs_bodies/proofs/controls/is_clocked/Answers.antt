use Rattle.std.proofs.Common.{List, map, ap, sym, ◌∙◌}
use Rattle.std.specs.List.{list_any}
use Rattle.vs_design.specs.Designs.{is_edge}
use Rattle.vs_grammar.specs.Trees as tree
use Rattle.vs_ast.specs.declared.items.Event.{Event}
use Rattle.vs_ast.specs.declared.items.EventControl.{EventControl}
use Rattle.vs_ast.specs.Views as view
use Rattle.vs_elaborated.specs.Statements.{is_clocked_by}
use Rattle.vs_bodies.proofs.EventFaults.{edges_are}
use Rattle.vs_bodies.proofs.controls.is_clocked.Goals as goal

pub returns-in-Listed : goal.returns-in-Listed
returns-in-Listed c =
    c.has_edge.ensures ∙ edges_are c.deref.result.now ∙ ap (λ (es : List Event). list_any (λ (e : tree.Event). is_edge e.edge) (map view.event es)) c.deref.ensures.value
    ∙ sym (ap (λ (x : EventControl). is_clocked_by (view.event_control x)) c.in-Listed.is)
