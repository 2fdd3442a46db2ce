use Rattle.std.proofs.Common.{◌≡◌, ◌+◌, sym, refl, subst, length, Bool}
use Rattle.vs_feed.specs.Reading.{AreRead}
use Rattle.vs_rounds.specs.Lanes.{Driving, HaveNext}
use Rattle.vs_rounds.specs.Ready.{AreDriven}
use Rattle.vs_rounds.specs.Stops.{ReadStops, stop_of}
use Rattle.vs_misses.specs.Watch.{AllFit, named}
use Rattle.vs_rounds.proofs.Rereads.{driven_read, named_read, fit_read, all_read, read_stops, of_stimulus}
use Rattle.vs_rounds.proofs.driven.Driven.read.Goals as goal

pub returns-clause-driven : goal.returns-clause-driven
returns-clause-driven g c =
    let d = c.self.inside in
    let e = c.in_default.ensures in
    λ h.
    driven_read d.drive c.read.new.self d.engine d.engine g.D.Desk.tells (g.D.Desk.told c.args.desk.now).contents (g.D.Desk.told c.read.new.desk).contents e.all e.numbered refl
    (subst (λ (s : Driving _). AreDriven s) (sym c.self.view_is) h)

pub returns-clause-columns : goal.returns-clause-columns
returns-clause-columns g c =
    let d = c.self.inside in
    subst (λ (s : Driving _). named c.read.new.self ≡ named s.stimuli) c.self.view_is
    (named_read g.D.Desk.tells (g.D.Desk.told c.args.desk.now).contents (g.D.Desk.told c.read.new.desk).contents d.drive c.read.new.self c.in_default.ensures.all)

pub returns-clause-fit : goal.returns-clause-fit
returns-clause-fit g c =
    let d = c.self.inside in
    λ outputs h.
    fit_read outputs g.D.Desk.tells (g.D.Desk.told c.args.desk.now).contents (g.D.Desk.told c.read.new.desk).contents d.drive c.read.new.self c.in_default.ensures.all
    (subst (λ (s : Driving _). AllFit outputs s.stimuli) (sym c.self.view_is) h)

pub returns-clause-read : goal.returns-clause-read
returns-clause-read g c =
    let d = c.self.inside in
    let e = c.in_default.ensures in
    let before = (g.D.Desk.told c.args.desk.now).contents in
    let after = (g.D.Desk.told c.read.new.desk).contents in
    λ t run k h.
    let next = subst (λ (s : Driving _). HaveNext run k s.stimuli before) (sym c.self.view_is) h in
    all_read run k d.drive c.read.new.self before after
    (subst (λ (b : Bool). AreRead b (length d.drive) (length d.drive) before after d.drive c.read.new.self) t e.all)
    next (e.taken t next.taken)

pub returns-in-Err-clause-stops : goal.returns-in-Err-clause-stops
returns-in-Err-clause-stops g c =
    let d = c.self.inside in
    let e = c.in-Err.ensures in
    let stopped = c.in-Err.stopped in
    let before = (g.D.Desk.told c.args.desk.now).contents in
    let after = (g.D.Desk.told c.read.new.desk).contents in
    λ t run k h.
    let made = read_stops run k d.drive c.read.new.self before after stopped.lane stopped.error
    (subst (λ (b : Bool). AreRead b stopped.lane (stopped.lane + 1) before after d.drive c.read.new.self) t e.part)
    e.lane e.was_live (e.refused t) (e.needed t)
    (subst (λ (s : Driving _). HaveNext run k s.stimuli before) (sym c.self.view_is) h) in
    subst (λ (s : Driving _). ReadStops run (length s.stimuli) k after c.stop_of.result) {x = record { stimuli = d.drive; engine = d.engine }} c.self.view_is
    (subst (ReadStops run (length d.drive) k after) {x = stop_of stopped.lane stopped.error} (sym {b = stop_of stopped.lane stopped.error} c.stop_of.ensures) made)

pub returns-in-Err-clause-stimulus : goal.returns-in-Err-clause-stimulus
returns-in-Err-clause-stimulus g c = of_stimulus c.in-Err.stopped.lane c.in-Err.stopped.error c.stop_of.result c.stop_of.ensures
