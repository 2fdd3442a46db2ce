use Rattle.vs_design.specs.Clocks.{clock_bits}
use Rattle.std.proofs.Common.{◌≤◌, length, inr, sym, subst, ap, ◌∙◌, arith}
use Rattle.std.proofs.lemmas.List.{take_all}
use Rattle.std.proofs.lemmas.Result.{err_from_is_err_and}
use Rattle.vs_flat.specs.DesignOf.{design_of}
use Rattle.vs_stim.specs.Header.{ArePorts}
use Rattle.vs_feed.specs.Opened.{AreOpened}
use Rattle.vs_feed.specs.Lanes.{AreLanes, AreAttached}
use Rattle.vs_setup.specs.Places.{with_texts}
use Rattle.vs_setup.proofs.Lanes.{HasLanes, HasEngine, IsMade, made_same, program_is}
use Rattle.vs_setup.proofs.Watching.{HasWatch, all_fit, are_parts, is_watched}
use Rattle.vs_setup.proofs.checking.prepare_check.Goals as goal

pub engine_of-requires-clause-accepted : goal.engine_of-requires-clause-accepted
engine_of-requires-clause-accepted g c =
    let l = c.in_ok-opened.ensures.opened.loaded.loaded in
    record { names = c.args.job.now.clocks; accepted = l.accepted.accepted; clocks = l.lent.clocks_are }

pub engine_of-requires-clause-footprints : goal.engine_of-requires-clause-footprints
engine_of-requires-clause-footprints g c = c.in_ok-opened.ensures.opened.loaded.loaded.lent.footprints_are

pub engine_of-requires-clause-resets : goal.engine_of-requires-clause-resets
engine_of-requires-clause-resets g c = c.in_ok-opened.ensures.opened.loaded.loaded.lent.resets_are

pub engine_of-requires-clause-order : goal.engine_of-requires-clause-order
engine_of-requires-clause-order g c = c.in_ok-opened.ensures.opened.loaded.loaded.lent.in_order

pub assemble_check-requires : goal.assemble_check-requires
assemble_check-requires g c =
    let job = c.args.job.now in
    let old = (g.D.Desk.told c.args.desk.now).contents in
    let new = (g.D.Desk.told c.open_job.new.desk).contents in
    let a = c.in_ok-opened.opened.accepted in
    let ports = c.in_ok-opened.opened.ports in
    let ks = c.in_ok-opened.opened.drive in
    let o = c.in_ok-opened.ensures.opened in
    let tells = g.D.Desk.tells in
    let behind : HasLanes tells job old o.middle new a ports ks = record { loaded = o.loaded; files = o.files; opened = o.opened; numbered = o.numbered } in
    record { fit = all_fit tells job old o.middle new a ports ks c.outputs_law.ensures.spans c.outputs_law.ensures.lengths behind }

pub returns-clause-prepared : goal.returns-clause-prepared
returns-clause-prepared g c =
    let job = c.args.job.now in
    let old = (g.D.Desk.told c.args.desk.now).contents in
    let new = (g.D.Desk.told c.open_job.new.desk).contents in
    let a = c.in_ok-opened.opened.accepted in
    let ports = c.in_ok-opened.opened.ports in
    let ks = c.in_ok-opened.opened.drive in
    let o = c.in_ok-opened.ensures.opened in
    let tells = g.D.Desk.tells in
    let m = c.in_ok-prepared.prepared.checker in
    let made : IsMade g.W.Word.lane g.W.Word.LANES (design_of a.flat) a.clocks.bits c.in_ok-engine.engine = record {
      program = c.in_ok-engine.ensures.program;
      begun = c.in_ok-engine.ensures.begun;
      begins = c.in_ok-engine.ensures.begins;
    } in
    let at_first : HasEngine g.W.Word.lane g.W.Word.LANES tells job old o.middle new a ports c.in_ok-engine.engine ks = record {
      behind = record { loaded = o.loaded; files = o.files; opened = o.opened; numbered = o.numbered };
      made = made;
      few = omega (arith, c.requires.lanes, o.opened.lanes);
    } in
    let drive_is = c.in_ok-prepared.ensures.stimuli in
    let lanes_are : HasEngine g.W.Word.lane g.W.Word.LANES tells job old o.middle new a ports m.engine m.stimuli = record {
      behind = record {
        loaded = o.loaded;
        files = o.files;
        opened = subst (λ ks. AreOpened tells ports o.middle new job.stimuli ks) (sym drive_is) o.opened;
        numbered = subst AreLanes (sym drive_is) o.numbered;
      };
      made = made_same g.W.Word.lane g.W.Word.LANES (design_of a.flat) a.clocks.bits c.in_ok-engine.engine m.engine c.in_ok-prepared.ensures.engine made;
      few = subst (λ ks. length ks ≤ g.W.Word.LANES) (sym drive_is) (omega (arith, c.requires.lanes, o.opened.lanes));
    } in
    let watch : HasWatch g.W.Word.lane g.W.Word.LANES tells job old o.middle new a ports m = record {
      lanes_are = lanes_are;
      outputs_are = c.in_ok-prepared.ensures.outputs;
      none = c.in_ok-prepared.ensures.none;
    } in
    record {
      file = o.loaded.file;
      file_is = o.loaded.file_is;
      taken = o.taken;
      design = design_of a.flat;
      accepted = o.loaded.loaded.accepted;
      size_is = c.in_ok-prepared.ensures.size ∙ o.loaded.loaded.size_is;
      program = program_is g.W.Word.lane g.W.Word.LANES tells job old o.middle new a ports m.engine m.stimuli lanes_are;
      begun = lanes_are.made.begun;
      all_ports = subst ArePorts o.loaded.loaded.ports_are o.loaded.loaded.are_ports;
      lanes = lanes_are.behind.opened.lanes;
      headers = o.headers;
      ready = c.in_ok-prepared.ensures.ready (design_of a.flat) (clock_bits o.loaded.loaded.accepted.accepted.clocks)
          (are_parts g.W.Word.lane g.W.Word.LANES tells job old o.middle new a ports c.in_ok-engine.engine ks at_first);
      opened = is_watched g.W.Word.lane g.W.Word.LANES tells job old o.middle new a ports m c.outputs_law.ensures.spans watch;
      register_is = c.in_ok-opened.ensures.register;
      readable = subst (λ ks. AreAttached (g.D.Desk.told c.open_job.new.desk).register ks) (sym drive_is) o.readable;
      kept = c.open_job.ensures.kept;
    }

pub returns-in_err-engine-clause-unprepared : goal.returns-in_err-engine-clause-unprepared
returns-in_err-engine-clause-unprepared g c =
    let p = err_from_is_err_and c.from_residual-in_err-engine.result c.from_residual-in_err-engine.ensures.1 in
    let job = c.args.job.now in
    let all : length job.stimuli ≤ length job.stimuli = omega arith in
    rw (p.1, p.2) (inr (
      length job.stimuli,
      all,
      c.in_ok-opened.ensures.register ∙ ap (λ ss. with_texts (g.D.Desk.told c.args.desk.now).register job ss) (sym (take_all (length job.stimuli) job.stimuli all)),
    ))

pub returns-in_err-prepared-clause-unprepared : goal.returns-in_err-prepared-clause-unprepared
returns-in_err-prepared-clause-unprepared g c =
    let p = err_from_is_err_and c.from_residual-in_err-prepared.result c.from_residual-in_err-prepared.ensures.1 in
    let job = c.args.job.now in
    let all : length job.stimuli ≤ length job.stimuli = omega arith in
    rw (p.1, p.2) (inr (
      length job.stimuli,
      all,
      c.in_ok-opened.ensures.register ∙ ap (λ ss. with_texts (g.D.Desk.told c.args.desk.now).register job ss) (sym (take_all (length job.stimuli) job.stimuli all)),
    ))
