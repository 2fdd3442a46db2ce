use Rattle.std.proofs.Common.{Err, length, sym, subst, ap, ◌∙◌, arith}
use Rattle.std.proofs.lemmas.Result.{err_from_is_err_and}
use Rattle.vs_desk.specs.Desk.{Register}
use Rattle.vs_desk.specs.Places.{other_place}
use Rattle.vs_feed.specs.Opened.{AreFree, with_lanes}
use Rattle.vs_setup.specs.DesignText.{with_design}
use Rattle.vs_setup.specs.Unprepared.{IsUnprepared, IsUnopened}
use Rattle.vs_setup.proofs.Opening.{err_is, unprepared, free_behind}
use Rattle.vs_setup.proofs.Lanes.{HasLanes, have_headers, have_next}
use Rattle.vs_setup.proofs.setup.open_job.Goals as goal

pub open_stimuli-requires-clause-lanes : goal.open_stimuli-requires-clause-lanes
open_stimuli-requires-clause-lanes g c = c.requires.job.few

pub open_stimuli-requires-clause-ports : goal.open_stimuli-requires-clause-ports
open_stimuli-requires-clause-ports g c = c.in_ok-loaded.ensures.loaded.loaded.are_ports

pub open_stimuli-requires-clause-free : goal.open_stimuli-requires-clause-free
open_stimuli-requires-clause-free g c =
    subst (λ (r : Register). AreFree r (length c.args.job.now.stimuli)) (sym c.in_ok-loaded.ensures.register)
    (free_behind c.attach_law.ensures.others (g.D.Desk.told c.args.desk.now).register c.args.job.now.design c.args.job.now.others (length c.args.job.now.stimuli) (length c.args.job.now.others) c.requires.job.few
    c.requires.fresh)

pub returns-in_err-drive-clause-unprepared : goal.returns-in_err-drive-clause-unprepared
returns-in_err-drive-clause-unprepared g c =
    let job = c.args.job.now in
    let old = g.D.Desk.told c.args.desk.now in
    let mid = g.D.Desk.told c.read_and_load.new.desk in
    let new = g.D.Desk.told c.open_stimuli.new.desk in
    let l = c.in_ok-loaded.loaded in
    let e = c.in_err-drive.field-0.0 in
    let unopened : IsUnopened l.ports job.stimuli mid new e = c.in_err-drive.ensures.unopened in
    let behind : IsUnopened l.ports job.stimuli (record mid { register = with_design old.register job.design job.others }) new e =
    subst (λ (r : Register). IsUnopened l.ports job.stimuli (record mid { register = r }) new e) c.in_ok-loaded.ensures.register
    unopened in
    err_is (IsUnprepared job old new) c.from_residual-in_err-drive.result e (let p = err_from_is_err_and c.from_residual-in_err-drive.result c.from_residual-in_err-drive.ensures.1 in p.1 ∙ ap Err p.2)
    (unprepared job old mid new l.accepted l.ports c.in_ok-loaded.ensures.loaded (λ t. (c.in_ok-loaded.ensures.kept t).files) e behind)

pub returns-clause-opened : goal.returns-clause-opened
returns-clause-opened g c =
    let job = c.args.job.now in
    let tells = g.D.Desk.tells in
    let old = (g.D.Desk.told c.args.desk.now).contents in
    let mid = (g.D.Desk.told c.read_and_load.new.desk).contents in
    let new = (g.D.Desk.told c.open_stimuli.new.desk).contents in
    let l = c.in_ok-loaded.loaded in
    let ks = c.in_ok-drive.drive in
    let lanes : HasLanes tells job old mid new l.accepted l.ports ks = record {
      loaded = c.in_ok-loaded.ensures.loaded;
      files = λ t. (c.in_ok-loaded.ensures.kept t).files;
      opened = c.in_ok-drive.ensures.opened;
      numbered = c.in_ok-drive.ensures.numbered;
    } in
    record {
      loaded = lanes.loaded;
      taken = λ t. record {
        design = (c.in_ok-drive.ensures.others t).before 1 (omega arith) ∙ (c.in_ok-loaded.ensures.taken t).design;
        others = λ i lt. (c.in_ok-drive.ensures.others t).behind (other_place i) (omega (arith, c.requires.job.few)) ∙ (c.in_ok-loaded.ensures.taken t).others i lt;
      };
      middle = mid;
      files = lanes.files;
      opened = lanes.opened;
      headers = λ t. have_headers tells job old mid l.accepted l.ports lanes.loaded lanes.files t (c.in_ok-drive.ensures.headers t);
      next = λ t. have_next tells job old mid new l.accepted l.ports ks lanes t;
      numbered = lanes.numbered;
      readable = c.in_ok-drive.ensures.readable;
    }

pub returns-clause-register : goal.returns-clause-register
returns-clause-register g c = c.in_ok-drive.ensures.register ∙ ap (λ (r : Register). with_lanes r c.args.job.now.stimuli) c.in_ok-loaded.ensures.register

pub returns-clause-kept : goal.returns-clause-kept
returns-clause-kept g c = λ t. record {
  files = (c.in_ok-drive.ensures.others t).files ∙ (c.in_ok-loaded.ensures.kept t).files;
  put = (c.in_ok-drive.ensures.others t).put ∙ (c.in_ok-loaded.ensures.kept t).put;
}

pub returns-in_err-drive-clause-kept : goal.returns-in_err-drive-clause-kept
returns-in_err-drive-clause-kept g c = λ t. record {
  files = (c.open_stimuli.ensures.others t).files ∙ (c.in_ok-loaded.ensures.kept t).files;
  put = (c.open_stimuli.ensures.others t).put ∙ (c.in_ok-loaded.ensures.kept t).put;
}
