use Rattle.std.proofs.Common.{◌≡◌, map, flat_map, sym, ap, ◌∙◌, subst, IfOk}
use Rattle.vs_grammar.specs.Trees as tree
use Rattle.vs_ast.specs.Views as view
use Rattle.vs_elaborated.specs.Ports.{item_directions, header_ports}
use Rattle.vs_items.proofs.Repeats.{items_are}
use Rattle.vs_items.specs.Ports.{port_of}
use Rattle.vs_items.proofs.ports.ports_of.Goals as goal

pub returns-in_ok-directions-in-Plain : goal.returns-in_ok-directions-in-Plain
returns-in_ok-directions-in-Plain c =
    let m = c.args.of.now in
    let ds = flat_map item_directions (map view.item c.deref.result.now) in
    let body = ap (λ is. flat_map item_directions is) (ap (map view.item) c.deref.ensures.value ∙ sym (items_are m.items.items)) in
    let header = ap (λ ns. tree.PlainPorts (map view.name ns)) c.deref-in-Plain.ensures.value ∙ sym (ap view.header c.in-Plain.is) in
    subst (λ ps. IfOk c.plain_ports.result (λ v. map port_of v.items ≡ ps)) (ap (λ h. header_ports h ds) header ∙ ap (header_ports (view.header m.header)) body)
    (c.plain_ports.ensures ds c.in_ok-directions-in-Plain.ensures)
