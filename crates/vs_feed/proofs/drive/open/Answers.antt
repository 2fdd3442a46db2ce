use Rattle.std.proofs.Common.{◌≤◌, length, sym, subst, arith}
use Rattle.std.proofs.lemmas.List.{length-map}
use Rattle.std.proofs.lemmas.Result.{err_from_is_err_and}
use Rattle.std.specs.Prelude.{string_bytes}
use Rattle.vs_desk.specs.Desk.{Register}
use Rattle.vs_desk.specs.Places.{most_lanes}
use Rattle.vs_feed.specs.Lanes.{AreAttached}
use Rattle.vs_feed.specs.Opened.{texts}
use Rattle.vs_feed.proofs.Opens.{lanes_opened, flags_opened}
use Rattle.vs_feed.proofs.Places.{lanes_attached}
use Rattle.vs_feed.proofs.drive.open.Goals as goal

pub invariant_of-result : goal.invariant_of-result
invariant_of-result g c =
    let paths = c.args.paths.items in
    let few : length (texts paths) ≤ most_lanes = rw (length-map paths string_bytes) c.requires.lanes in
    record {
      lanes = lanes_opened _ _ _ _ (texts paths) c.in_ok-stimuli.stimuli.items few c.in_ok-stimuli.ensures.opened;
      live = flags_opened _ _ _ _ (texts paths) c.in_ok-stimuli.stimuli.items few c.in_ok-stimuli.ensures.opened;
    }

pub returns-clause-readable : goal.returns-clause-readable
returns-clause-readable g c =
    let h = c.in_ok-stimuli.ensures in
    let ks = c.in_ok-stimuli.stimuli.items in
    subst (λ (r : Register). AreAttached r ks) (sym h.attached) (lanes_attached c.attach_law.ensures.each (g.D.Desk.told c.args.desk.now).register (texts c.args.paths.items) ks (omega (arith, h.opened.lanes)))

pub returns-in_err-stimuli-clause-stopped : goal.returns-in_err-stimuli-clause-stopped
returns-in_err-stimuli-clause-stopped g c =
    let p = err_from_is_err_and c.from_residual.result c.from_residual.ensures.1 in
    rw (p.1, p.2) c.in_err-stimuli.ensures.stopped
