use Rattle.std.proofs.Common.{◌++◌, [], ◌∷◌, List, Option, length, sym, ap, subst, ◌∙◌}
use Rattle.vs_ast.specs.Views as view
use Rattle.vs_elaborated.specs.Ports.{Port, find_port}
use Rattle.vs_elaborated.specs.Instances.{connected}
use Rattle.vs_maps.specs.Maps.{Pair}
use Rattle.vs_maps.specs.MapViews.{pairs}
use Rattle.vs_items.specs.Noted.{AreFirst, named}
use Rattle.vs_items.proofs.CountedPorts.{one_if, names_noted, names_kept}
use Rattle.vs_items.proofs.counts.note_connected.Goals as goal

pub returns-in_ok-note : goal.returns-in_ok-note
returns-in_ok-note c = λ ps env cs a h.
    let p = view.named_connection c.args.part.now in
    names_noted ps env (pairs c.args.names.now) (pairs c.note.new.map) cs p
    (ap (λ (o : Option Port). length (connected o p.e env).connections) (sym (c.find.ensures ps a ∙ ap (find_port ps) c.as_slice-name.ensures)) ∙ c.has_process.ensures env ∙ ap one_if c.if-has_process.true)
    (subst (λ n. (all : List (Pair (Unit {0}))) → AreFirst (pairs c.args.names.now) all → AreFirst (pairs c.note.new.map) (all ++ named n tt ∷ [])) c.as_slice-name.ensures c.in_ok-note.ensures.first)
    h

pub returns-else-has_process : goal.returns-else-has_process
returns-else-has_process c = λ ps env cs a h.
    let p = view.named_connection c.args.part.now in
    names_kept ps env (pairs c.args.names.now) cs p
    (ap (λ (o : Option Port). length (connected o p.e env).connections) (sym (c.find.ensures ps a ∙ ap (find_port ps) c.as_slice-name.ensures)) ∙ c.has_process.ensures env ∙ ap one_if c.if-has_process.false)
    h
