use Rattle.std.proofs.Common.{refl}
use Rattle.vs_explainer.specs.Looks.{with_ports}
use Rattle.vs_explainer.specs.Lent.{seen_of}
use Rattle.vs_explainer.proofs.Sights.{on_ok, then_only}
use Rattle.vs_explainer.proofs.refusals.page_of.Goals as goal

pub returns-clause-only : goal.returns-clause-only
returns-clause-only g c =
    let old = g.D.Desk.told c.args.desk.now in
    then_only old (g.D.Desk.told c.see_ports.new.desk) (g.D.Desk.told c.see_file.new.desk) c.in_ok-ports.ensures.only c.in_ok-file.ensures.only

pub returns-clause-page : goal.returns-clause-page
returns-clause-page g c =
    on_ok _ _ c.seen_page.result c.seen_page.ensures
    (λ page e. (
      with_ports (seen_of c.in_ok-ports.ports) (seen_of c.in_ok-file.file),
      record {
        middle = g.D.Desk.told c.see_ports.new.desk;
        ports = seen_of c.in_ok-ports.ports;
        file = seen_of c.in_ok-file.file;
        sees_ports = c.in_ok-ports.ensures.sees;
        sees_file = c.in_ok-file.ensures.sees;
        seen_is = refl;
      },
      e,
    ))
