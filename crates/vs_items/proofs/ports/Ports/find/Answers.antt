use Rattle.std.proofs.Common.{Some, None, option_map, sym, ap, ◌∙◌}
use Rattle.vs_items.proofs.PortTables.{found_in}
use Rattle.vs_items.proofs.ports.Ports.find.Goals as goal

pub returns-in-None : goal.returns-in-None
returns-in-None c = λ ps a.
    found_in c.args.self.now ps c.args.name.now None (sym (ap (option_map (λ x. x.now)) c.in-None.is) ∙ c.get.ensures.value) a

pub returns-in-Some : goal.returns-in-Some
returns-in-Some c = λ ps a.
    found_in c.args.self.now ps c.args.name.now (Some c.in-Some.input.now) (sym (ap (option_map (λ x. x.now)) c.in-Some.is) ∙ c.get.ensures.value) a
