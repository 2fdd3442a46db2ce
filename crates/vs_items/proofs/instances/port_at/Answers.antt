use Rattle.std.proofs.Common.{option_map, List, sym, ap, ◌∙◌, subst}
use Rattle.std.specs.Prelude.{slice_get}
use Rattle.std.proofs.lemmas.Option.{slice_get-map}
use Rattle.vs_items.specs.declared.ports.Port.{Port}
use Rattle.vs_items.specs.Interfaces.{IsKnown}
use Rattle.vs_items.specs.Ports.{port_of}
use Rattle.vs_items.proofs.ConnectionSteps.{got_at}
use Rattle.vs_items.proofs.InstanceFaults.{known_ports}
use Rattle.vs_items.proofs.instances.port_at.Goals as goal

pub returns-in-Some : goal.returns-in-Some
returns-in-Some c = λ m known.
    let i = c.in-Some.i.now in
    let n = c.args.n in
    let a = known_ports i m (subst (λ o. IsKnown o m) c.in-Some.is known) in
    ap (option_map port_of) (c.copied.ensures ∙ got_at c.get.result c.deref.result.now n c.get.ensures.lookup.0 c.get.ensures.lookup.1)
    ∙ ap (λ (xs : List Port). option_map port_of (slice_get xs n)) c.deref.ensures.value
    ∙ sym (slice_get-map port_of i.ports.list.items n) ∙ ap (λ xs. slice_get xs n) a.list
