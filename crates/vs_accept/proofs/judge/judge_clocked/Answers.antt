use Rattle.std.proofs.Common.{◌≡◌, true, sym, ap, ◌∙◌, subst, map}
use Rattle.std.specs.List.{list_all}
use Rattle.vs_design.specs.Fits.{fits_process}
use Rattle.vs_design.specs.Selects.{select_firsts}
use Rattle.vs_flat.specs.Arena.{Arena}
use Rattle.vs_flat.specs.DesignOf.{design_of}
use Rattle.vs_full.specs.Found.{AreAllNoted}
use Rattle.vs_accept.specs.Lent.{IsAcceptance}
use Rattle.vs_accept.proofs.Judged.{accepted}
use Rattle.vs_accept.proofs.judge.judge_clocked.Goals as goal

pub returns-in-Err-clause-refused : goal.returns-in-Err-clause-refused
returns-in-Err-clause-refused c = c.clock_error.ensures (map (λ c. c.now) c.args.clocks.now) c.requires.kept c.in-Err.ensures.refused

pub returns-in-Err-order-clause-refused : goal.returns-in-Err-order-clause-refused
returns-in-Err-order-clause-refused c =
    let k = c.requires.kept in
    c.level_error.ensures (map (λ c. c.now) c.args.clocks.now) (k.0, k.1, k.2, c.in-Ok.ensures.lawful) c.in-Err-order.ensures.refused

pub returns-in-Err-races-clause-refused : goal.returns-in-Err-races-clause-refused
returns-in-Err-races-clause-refused c =
    let k = c.requires.kept in
    c.race_error.ensures (map (λ c. c.now) c.args.clocks.now) (k.0, k.1, k.2, c.in-Ok.ensures.lawful) c.in-Ok-order.ensures.acyclic c.in-Err-races.ensures.refused

pub returns-in-Err-check-clause-refused : goal.returns-in-Err-check-clause-refused
returns-in-Err-check-clause-refused c =
    let k = c.requires.kept in
    c.zero_error.ensures (map (λ c. c.now) c.args.clocks.now) (k.0, k.1, k.2, c.in-Ok.ensures.lawful) c.in-Ok-order.ensures.acyclic c.in_default.ensures.free
    (c.in-Err-check.ensures.refused (map (λ c. c.now) c.args.clocks.now) c.in-Ok.ensures.clocks)

pub select_firsts-requires-clause-noted : goal.select_firsts-requires-clause-noted
select_firsts-requires-clause-noted c = subst (λ (a : Arena). AreAllNoted a c.args.cases) (sym c.shapes.ensures) c.requires.cases

pub select_firsts-requires-clause-fits : goal.select_firsts-requires-clause-fits
select_firsts-requires-clause-fits c =
    subst (λ (a : Arena). list_all fits_process (design_of a).processes ≡ true) (sym c.shapes.ensures) (c.fits_law.ensures.fits (design_of c.args.typed) c.flat-flat.ensures.lawful.design c.flat-flat.ensures.fits)

pub returns-clause-accepted : goal.returns-clause-accepted
returns-clause-accepted c =
    let k = c.requires.kept in
    accepted c.accepted_law.ensures.exactly (design_of c.args.typed) (map (λ c. c.now) c.args.clocks.now) c.flat-flat.ensures.lawful.design (k.0, k.1, k.2, c.in-Ok.ensures.lawful)
    c.in-Ok-order.ensures.acyclic c.in_default.ensures.free (c.in_default-check.ensures.lawful (map (λ c. c.now) c.args.clocks.now) c.in-Ok.ensures.clocks)

pub returns-clause-lent : goal.returns-clause-lent
returns-clause-lent c =
    subst (IsAcceptance (map (λ c. c.now) c.args.clocks.now)) (sym c.of.ensures)
    (record {
      lawful = c.flat-flat.ensures.lawful;
      footprints_are = c.requires.footprints;
      clocks_are = c.in-Ok.ensures.clocks;
      resets_are = c.in-Ok.ensures.resets;
      in_order = c.in-Ok-order.ensures.order;
      selects_are = c.in_ok-selects.ensures ∙ ap (λ (a : Arena). select_firsts (design_of a)) c.shapes.ensures;
    })
