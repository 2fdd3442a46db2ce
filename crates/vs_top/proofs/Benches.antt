-- The job of a bench over a desk of its own.
use Rattle.std.proofs.Common.{◌≡◌, ◌≢◌, ◌⊎◌, ℕ, zero, suc, Bool, true, [], ◌∷◌, length, refl, sym, ap, ◌∙◌, subst, inl, inr, arith, length-append}
use Rattle.vs_desk.specs.Desk.{Told, Register, Contents, no_register}
use Rattle.vs_job.specs.declared.bench.Bench.{Bench}
use Rattle.vs_job.specs.declared.job.Job.{Job}
use Rattle.vs_job.specs.declared.job.Mode.TheVariants as modes
use Rattle.vs_job.specs.Bench.{IsBench}
use Rattle.vs_job.specs.Job.{IsJob}
use Rattle.vs_bench.specs.Bench as bench
use Rattle.vs_refusal.specs.declared.refusal.Refusal.TheVariants.{Bare}
use Rattle.vs_refusal.specs.declared.names.BareName.TheVariants.{Usage}
use Rattle.vs_top.specs.declared.outcome.Summary.{Summary}
use Rattle.vs_top.specs.declared.outcome.Outcome.{Outcome}
use Rattle.vs_top.specs.declared.outcome.Outcome.TheVariants.{Done, Ordered, Refused, ReadFault, WriteFault, Memory}
use Rattle.vs_top.specs.Outcomes.{outcome_line}
use Rattle.vs_top.specs.Reported.{ReportsDone, ReportsLine, OnStopped}
use Rattle.vs_top.specs.Ended.{IsEnd, IsStopped, IsUnused}
use Rattle.vs_top.specs.Benched.{of_bench, IsBenchEnd}
use Rattle.vs_top.specs.Causes.{ShowsCause}
use Rattle.vs_top.proofs.Ends.{end_usage}
use Rattle.vs_top.proofs.Causes.{on_stopped, report_keeps}
use Rattle.vs_top.proofs.Queued.{run_queue}

pub paths_long : (lanes : ℕ) → length (bench.lane_paths lanes) ≡ lanes
paths_long zero = refl
paths_long (suc lane) =
    let e = length-append (bench.lane_paths lane) (bench.lane_path lane ∷ []) in
    let before = paths_long lane in
    omega (arith, e, before)

pub bench_job_is : (b : Bench) → IsBench b → IsJob (bench.job b.lanes)
bench_job_is b h =
    let long = paths_long b.lanes in
    record { half_from = omega arith; half_to = omega arith; short = omega arith; together = omega arith; some = omega (arith, long, h.lanes_from); few = omega (arith, long, h.lanes_to); lone = λ order e. absurd (run_queue modes.Run order refl e) }

pub all_unused : (lanes others : ℕ) → IsUnused no_register lanes others
all_unused lanes others = record { texts = record { files = record { design = refl; each = λ i h. refl }; stimuli = λ i h. refl }; waves = λ i h. refl }

-- how a bench ended, from how its job did
pub bench_ended : (b : Bench) (j : Job) (old new : Told true) (inner o : Outcome) → j ≡ bench.job b.lanes
    → old.register ≡ no_register → old.contents ≡ bench.files b.vectors b.lanes → IsEnd j old new [] inner → o ≡ of_bench inner → IsBenchEnd b o
bench_ended b j old new inner o job_is register_is contents_are ended is = record {
  told = new;
  inner = inner;
  ended = subst (λ (c : Contents). IsEnd (bench.job b.lanes) (record { register = no_register; contents = c }) new [] inner) contents_are
      (subst (λ (r : Register). IsEnd (bench.job b.lanes) (record { register = r; contents = old.contents }) new [] inner) register_is
      (subst (λ (k : Job). IsEnd k old new [] inner) job_is ended));
  outcome_is = is;
}

-- ---- what the counts of the other desk say

inner_usage : (inner : Outcome) → Refused (Bare Usage) ≡ of_bench inner → inner ≡ Refused (Bare Usage)
inner_usage (Done s) h = cc
inner_usage (Ordered c) h = cc
inner_usage (Refused r) h = sym h
inner_usage (ReadFault place) h = cc
inner_usage (WriteFault place) h = cc
inner_usage Memory h = cc

-- no bench ends as a faulty list of words
pub bench_usage : (b : Bench) (o : Outcome) → (o ≡ Memory) ⊎ IsBenchEnd b o → o ≢ Refused (Bare Usage)
bench_usage b o (inl memory) = λ h. never (sym memory ∙ h)
  where
    never : Memory ≡ Refused (Bare Usage) → ⊥
    never h = cc
bench_usage b o (inr e) = λ h.
    end_usage (bench.job b.lanes) _ e.told [] e.inner e.ended (inner_usage e.inner (sym h ∙ e.outcome_is))

-- nor with a failed call
no_fault : {tells : Bool} (old new : Told tells) (o : Outcome) (inner : Outcome) → o ≡ of_bench inner → IsStopped o → new.register.faults ≡ old.register.faults → ShowsCause old new o
no_fault old new o inner is stopped same = subst (ShowsCause old new) (sym is) (go inner (subst IsStopped is stopped))
  where
    go : (i : Outcome) → IsStopped (of_bench i) → ShowsCause old new (of_bench i)
    go (Done s) h = absurd h
    go (Ordered c) h = absurd h
    go (Refused r) h = same
    go (ReadFault place) h = same
    go (WriteFault place) h = same
    go Memory h = same

pub bench_stopped_cause : {tells : Bool} (b : Bench) (old new : Told tells) (o result : Outcome)
    → IsStopped o → (o ≡ Memory) ⊎ IsBenchEnd b o → OnStopped o (result ≡ o) → OnStopped o (ReportsLine old new (outcome_line o))
    → ShowsCause old new result
bench_stopped_cause b old new o result stopped end is line =
    subst (ShowsCause old new) (sym (on_stopped o (result ≡ o) stopped is)) (go end)
  where
    same : new.register.faults ≡ old.register.faults
    same = (report_keeps old new (outcome_line o) (on_stopped o (ReportsLine old new (outcome_line o)) stopped line)).0

    go : (o ≡ Memory) ⊎ IsBenchEnd b o → ShowsCause old new o
    go (inl memory) = no_fault old new o Memory memory stopped same
    go (inr e) = no_fault old new o e.inner e.outcome_is stopped same

pub bench_done_cause : {tells : Bool} (old new : Told tells) (s : Summary) (result : Outcome)
    → ReportsDone old new [] (Done s) result → ShowsCause old new result
bench_done_cause old new s result (inl r) =
    subst (ShowsCause old new) (sym r.0) (ap (λ (k : Register). k.faults) r.1.same, ap (λ (k : Register). k.losses) r.1.same)
bench_done_cause old new s result (inr r) =
    subst (ShowsCause old new) (sym r.0) (inr (refl, record { rose = r.1.failed.loss refl; no_fault = r.1.failed.no_fault refl }))

-- a run that is done and reported isn't a faulty list of words
pub done_usage : {tells : Bool} (old new : Told tells) (s : Summary) (result : Outcome)
    → ReportsDone old new [] (Done s) result → result ≢ Refused (Bare Usage)
done_usage old new s result (inl r) = λ h. never (sym r.0 ∙ h)
  where
    never : Done s ≡ Refused (Bare Usage) → ⊥
    never h = cc
done_usage old new s result (inr r) = λ h. never (sym r.0 ∙ h)
  where
    never : WriteFault 0 ≡ Refused (Bare Usage) → ⊥
    never h = cc
