use Rattle.std.proofs.Common.{sym, refl, subst, length, IfErr}
use Rattle.vs_rounds.specs.Lanes.{HaveNext}
use Rattle.vs_rounds.specs.Ready.{AreDriven}
use Rattle.vs_rounds.specs.Stops.{ReadStops}
use Rattle.vs_rounds.specs.Checked.{Checking, IsCheckable}
use Rattle.vs_rounds.proofs.Rereads.{three_ok}
use Rattle.vs_rounds.proofs.Checks.{checkable_on}
use Rattle.vs_rounds.proofs.checker.Checker.read.Goals as goal

pub returns-clause-ready : goal.returns-clause-ready
returns-clause-ready g c =
    let m : Checking _ = record { stimuli = c.self.inside.driven.stimuli; engine = c.self.inside.driven.engine; misses = c.self.inside.misses } in
    let new : Checking _ = record { stimuli = c.read.new.self.stimuli; engine = c.read.new.self.engine; misses = c.self.inside.misses } in
    λ h.
    let was = subst (λ (s : Checking _). IsCheckable s) (sym c.self.view_is) h in
    let driven : AreDriven c.self.inside.driven = record { lanes = was.lanes; bits = was.bits } in
    three_ok c.read.result (λ now columns fit. checkable_on m new c.read.ensures.engine refl now columns fit was)
    (c.read.ensures.driven driven) c.read.ensures.columns (c.read.ensures.fit c.self.inside.misses.outputs was.fit)

pub returns-clause-read : goal.returns-clause-read
returns-clause-read g c =
    let before = (g.D.Desk.told c.args.desk.now).contents in
    λ t run k h. c.read.ensures.read t run k (subst (λ (s : Checking _). HaveNext run k s.stimuli before) (sym c.self.view_is) h)

pub returns-clause-stops : goal.returns-clause-stops
returns-clause-stops g c =
    let before = (g.D.Desk.told c.args.desk.now).contents in
    let after = (g.D.Desk.told c.read.new.desk).contents in
    λ t run k h.
    subst (λ (s : Checking _). IfErr c.read.result (ReadStops run (length s.stimuli) k after)) c.self.view_is
    (c.read.ensures.stops t run k (subst (λ (s : Checking _). HaveNext run k s.stimuli before) (sym c.self.view_is) h))
