use Rattle.vs_design.specs.Clocks.{clock_bits}
use Rattle.std.proofs.Common.{ℕ, refl, sym, subst, ◌∙◌}
use Rattle.vs_desk.specs.Desk.{Register}
use Rattle.vs_rounds.specs.Stops.{IsLaneOf, HasCause, ReadStops}
use Rattle.vs_setup.specs.Ports.{ports_of}
use Rattle.vs_setup.specs.Prepared.{run_of}
use Rattle.vs_top.specs.Ended.IsEnd.{setup, first}
use Rattle.vs_top.proofs.Lanes.{check_is}
use Rattle.vs_top.proofs.checking.begin_check.Goals as goal

pub returns-in-Err-clause-unbegun : goal.returns-in-Err-clause-unbegun
returns-in-Err-clause-unbegun g c = setup refl (sym c.same_paths.ensures ∙ c.in_default.is) (record {
  error = c.in-Err.error;
  outcome_is = c.setup_outcome.ensures.outcome;
  cause = c.in-Err.ensures.unprepared;
  kept = λ t. c.prepare_check.ensures.kept t;
})

pub returns-in-Err-begin-clause-unbegun : goal.returns-in-Err-begin-clause-unbegun
returns-in-Err-begin-clause-unbegun g c =
    let job = c.args.job.now in
    let p = c.in-Ok.ensures.prepared in
    let stop = c.in-Err-begin.stop in
    let run = run_of job (g.D.Desk.told c.args.desk.now).contents.files p.design (clock_bits p.accepted.accepted.clocks) (ports_of job.mode p.accepted) in
    first refl (sym c.same_paths.ensures ∙ c.in_default.is) (record {
      stop = stop;
      outcome_is = c.stop_outcome.ensures.outcome;
      lane = subst (λ (n : ℕ). IsLaneOf n stop) p.lanes c.in-Err-begin.ensures.lane;
      cause = subst (λ (r : Register). HasCause r (g.D.Desk.told c.begin.new.desk).register stop) p.register_is c.in-Err-begin.ensures.cause;
      stops = λ t. (run, check_is _ _ _ _ _ _ p t, subst (λ (n : ℕ). ReadStops run n 0 (g.D.Desk.told c.begin.new.desk).contents stop) p.lanes (c.in-Err-begin.ensures.stops t run (p.opened t)));
      kept = λ t. let begun = c.begin.ensures.others t in record { files = begun.files ∙ (p.kept t).files; put = begun.put ∙ (p.kept t).put };
    })

pub returns-in-Ok-begin-clause-begun : goal.returns-in-Ok-begin-clause-begun
returns-in-Ok-begin-clause-begun g c =
    let job = c.args.job.now in
    let p = c.in-Ok.ensures.prepared in
    let run = run_of job (g.D.Desk.told c.args.desk.now).contents.files p.design (clock_bits p.accepted.accepted.clocks) (ports_of job.mode p.accepted) in
    record {
      different = sym c.same_paths.ensures ∙ c.in_default.is;
      middle = g.D.Desk.told c.prepare_check.new.desk;
      before = c.in-Ok.check.checker;
      prepared = p;
      engine = c.begin.ensures.engine;
      lanes = c.in-Ok-begin.ensures.lanes;
      register_is = c.in-Ok-begin.ensures.same;
      others = c.begin.ensures.others;
      in_round = λ t. c.in-Ok-begin.ensures.begun t run (p.opened t);
    }
