use Rattle.std.proofs.Common.{◌<◌, ◌+◌, ◌∙◌, Bool, ℕ, length, sym, subst, arith}
use Rattle.vs_feed.specs.Lanes.{OtherPlacesKept}
use Rattle.vs_feed.specs.Reading.{AreRead}
use Rattle.vs_rounds.specs.Stops.{ReadStops, stop_of}
use Rattle.vs_rounds.proofs.Rereads.{all_read, of_stimulus, read_stops}
use Rattle.vs_ordered.proofs.Rounds.{lone_live, of_lane}
use Rattle.vs_ordered.proofs.reading.read_next.Goals as goal

pub returns-in-Ok-clause-lone : goal.returns-in-Ok-clause-lone
returns-in-Ok-clause-lone g c = c.in-Ok.ensures.all.lanes ∙ c.requires.lone

pub returns-in-Ok-clause-live : goal.returns-in-Ok-clause-live
returns-in-Ok-clause-live g c = c.in-Ok.ensures.some ∙ lone_live c.read.new.self (c.in-Ok.ensures.all.lanes ∙ c.requires.lone)

pub returns-in-Ok-clause-lane : goal.returns-in-Ok-clause-lane
returns-in-Ok-clause-lane g c =
    let lone = c.in-Ok.ensures.all.lanes ∙ c.requires.lone in
    let within : 0 < length c.read.new.self = omega (arith, lone) in
    c.in-Ok.ensures.numbered.numbered 0 within

pub returns-in-Ok-clause-sizes : goal.returns-in-Ok-clause-sizes
returns-in-Ok-clause-sizes g c = c.in-Ok.ensures.sizes.each 0

pub returns-in-Ok-clause-read : goal.returns-in-Ok-clause-read
returns-in-Ok-clause-read g c =
    let old = c.args.drive.now in
    let new = c.read.new.self in
    let before = (g.D.Desk.told c.args.desk.now).contents in
    let after = (g.D.Desk.told c.read.new.desk).contents in
    λ t run k h.
    all_read run k old new before after (subst (λ (b : Bool). AreRead b (length old) (length old) before after old new) t c.in-Ok.ensures.all) h (c.in-Ok.ensures.taken t h.taken)

pub returns-in-Ok-clause-others : goal.returns-in-Ok-clause-others
returns-in-Ok-clause-others g c = λ t.
    subst (λ (n : ℕ). OtherPlacesKept n (g.D.Desk.told c.args.desk.now).contents (g.D.Desk.told c.read.new.desk).contents) c.requires.lone (c.in-Ok.ensures.others t)

pub returns-in-Err-clause-stops : goal.returns-in-Err-clause-stops
returns-in-Err-clause-stops g c =
    let old = c.args.drive.now in
    let new = c.read.new.self in
    let e = c.in-Err.ensures in
    let stopped = c.in-Err.stopped in
    let before = (g.D.Desk.told c.args.desk.now).contents in
    let after = (g.D.Desk.told c.read.new.desk).contents in
    λ t run k h.
    let made = read_stops run k old new before after stopped.lane stopped.error
    (subst (λ (b : Bool). AreRead b stopped.lane (stopped.lane + 1) before after old new) t e.part)
    e.lane e.was_live (e.refused t) (e.needed t) h in
    subst (λ (n : ℕ). ReadStops run n k after c.stop_of.result) c.requires.lone
    (subst (ReadStops run (length old) k after) {x = stop_of stopped.lane stopped.error} (sym {b = stop_of stopped.lane stopped.error} c.stop_of.ensures) made)

pub returns-in-Err-clause-stimulus : goal.returns-in-Err-clause-stimulus
returns-in-Err-clause-stimulus g c = of_stimulus c.in-Err.stopped.lane c.in-Err.stopped.error c.stop_of.result c.stop_of.ensures

pub returns-in-Err-clause-stop_lane : goal.returns-in-Err-clause-stop_lane
returns-in-Err-clause-stop_lane g c =
    let within : c.in-Err.stopped.lane < 1 = omega (arith, c.in-Err.ensures.lane, c.requires.lone) in
    of_lane 1 c.in-Err.stopped.lane c.in-Err.stopped.error c.stop_of.result c.stop_of.ensures within

pub returns-in-Err-clause-others : goal.returns-in-Err-clause-others
returns-in-Err-clause-others g c = λ t.
    subst (λ (n : ℕ). OtherPlacesKept n (g.D.Desk.told c.args.desk.now).contents (g.D.Desk.told c.read.new.desk).contents) c.requires.lone (c.in-Err.ensures.others t)
