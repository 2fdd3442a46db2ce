use Rattle.std.proofs.Common.{◌≡◌, ℕ, List, All, sym, ◌∙◌, subst}
use Rattle.vs_flat.specs.DesignOf.{design_of}
use Rattle.vs_stim.specs.Row.{sizes}
use Rattle.vs_feed.specs.Lanes.{lane_at}
use Rattle.vs_rounds.specs.declared.stop.Stop.{Stop}
use Rattle.vs_rounds.specs.Drives.{Vector}
use Rattle.vs_rounds.specs.Stops.{IsLaneOf, IsOfStimulus, HasCause, ReadStops}
use Rattle.vs_ordered.specs.declared.reading.Unread.TheVariants.{Stopped}
use Rattle.vs_top.specs.Answers.{stop_outcome}
use Rattle.vs_top.specs.Traced.{IsTraceOf}
use Rattle.vs_top.proofs.Tracing.{IsOpen, on_stop, on_memory, unread_end, short_end, traced_job, sized_of}
use Rattle.vs_top.proofs.queueing.trace_job.Goals as goal

pub returns-in-Err-Stopped-clause-stopped : goal.returns-in-Err-Stopped-clause-stopped
returns-in-Err-Stopped-clause-stopped g c =
    let job = c.args.job.now in
    let opened = c.in-Ok.opened in
    let read = c.in-Err-Stopped.ensures in
    let stop = c.in-Err-Stopped.stop in
    let told = c.stop_outcome.ensures.outcome in
    let named = c.in-Err-Stopped.stop-is in
    let variant = c.in-Err-Stopped.field-0-is in
    let is_stop : c.in-Err-Stopped.field-0 ≡ Stopped stop = cc in
    let outcome : c.stop_outcome.result ≡ stop_outcome stop = cc in
    let now = g.D.Desk.told c.open_job.new.desk in
    let new = g.D.Desk.told c.read_vectors.new.desk in
    let is_open : IsOpen job (g.D.Desk.told c.args.desk.now) (g.D.Desk.told c.open_job.new.desk) opened.accepted opened.ports opened.drive = record { opened = c.in-Ok.ensures.opened; register_is = c.in-Ok.ensures.register; kept = λ t. c.open_job.ensures.kept t } in
    unread_end job c.args.order (g.D.Desk.told c.args.desk.now) (g.D.Desk.told c.open_job.new.desk) (g.D.Desk.told c.read_vectors.new.desk) opened.accepted opened.ports opened.drive stop c.stop_outcome.result
    (c.requires.job.lone c.args.order c.requires.mode) c.requires.mode (sym c.same_paths.ensures ∙ c.in_default.is) is_open outcome
    (on_stop (IsLaneOf 1) _ stop is_stop read.lane) (on_stop IsOfStimulus _ stop is_stop read.stimulus) (on_stop (HasCause now.register new.register) _ stop is_stop read.cause)
    (λ t run next. on_stop (λ (s : Stop). (k : ℕ) × ReadStops run 1 k new.contents s) _ stop is_stop (read.stops t run next))
    (λ t. c.read_vectors.ensures.others t)

pub returns-in-Err-Memory-clause-stopped : goal.returns-in-Err-Memory-clause-stopped
returns-in-Err-Memory-clause-stopped g c =
    let job = c.args.job.now in
    let opened = c.in-Ok.opened in
    let is_open : IsOpen job (g.D.Desk.told c.args.desk.now) (g.D.Desk.told c.open_job.new.desk) opened.accepted opened.ports opened.drive = record { opened = c.in-Ok.ensures.opened; register_is = c.in-Ok.ensures.register; kept = λ t. c.open_job.ensures.kept t } in
    short_end job c.args.order (g.D.Desk.told c.args.desk.now) (g.D.Desk.told c.open_job.new.desk) (g.D.Desk.told c.read_vectors.new.desk) opened.accepted opened.ports opened.drive
    c.requires.mode (sym c.same_paths.ensures ∙ c.in_default.is) is_open (on_memory ((g.D.Desk.told c.read_vectors.new.desk).register ≡ (g.D.Desk.told c.open_job.new.desk).register) c.in-Err-Memory.field-0 c.in-Err-Memory.field-0-is c.in-Err-Memory.ensures.memory) (λ t. c.read_vectors.ensures.others t)

pub trace-requires-clause-sized : goal.trace-requires-clause-sized
trace-requires-clause-sized g c =
    let job = c.args.job.now in
    let opened = c.in-Ok.opened in
    let is_open : IsOpen job (g.D.Desk.told c.args.desk.now) (g.D.Desk.told c.open_job.new.desk) opened.accepted opened.ports opened.drive = record { opened = c.in-Ok.ensures.opened; register_is = c.in-Ok.ensures.register; kept = λ t. c.open_job.ensures.kept t } in
    sized_of job (g.D.Desk.told c.args.desk.now) (g.D.Desk.told c.open_job.new.desk) opened.accepted opened.ports opened.drive c.as_slice.result.now (c.requires.job.lone c.args.order c.requires.mode) is_open
    (subst (All (λ (v : Vector). sizes v ≡ sizes (lane_at opened.drive 0).vector)) (sym c.as_slice.ensures.value) c.in-Ok-read_vectors.ensures.sized)

pub returns-in-Ok-trace-clause-traced : goal.returns-in-Ok-trace-clause-traced
returns-in-Ok-trace-clause-traced g c =
    let job = c.args.job.now in
    let opened = c.in-Ok.opened in
    let traced = c.in-Ok-trace.traced in
    let read = c.in-Ok-read_vectors.ensures in
    let is_open : IsOpen job (g.D.Desk.told c.args.desk.now) (g.D.Desk.told c.open_job.new.desk) opened.accepted opened.ports opened.drive = record { opened = c.in-Ok.ensures.opened; register_is = c.in-Ok.ensures.register; kept = λ t. c.open_job.ensures.kept t } in
    traced_job c.headline_law.ensures.some c.known_law.ensures.known c.known_law.ensures.controls c.known_law.ensures.some job c.args.order (g.D.Desk.told c.args.desk.now) (g.D.Desk.told c.open_job.new.desk) (g.D.Desk.told c.read_vectors.new.desk) opened.accepted opened.ports opened.drive
    c.in-Ok-read_vectors.vectors.items traced.text.items traced.course c.requires.mode is_open read.same (λ t. c.read_vectors.ensures.others t) (λ t run next. read.vectors t run next)
    (subst (λ (vs : List Vector). IsTraceOf job.share (design_of opened.accepted.flat) opened.accepted.clocks.bits job.half c.args.order vs traced.text.items traced.course) c.as_slice.ensures.value c.in-Ok-trace.ensures.traced)

pub returns-clause-stopped : goal.returns-clause-stopped
returns-clause-stopped g c =
    let job = c.args.job.now in
    let opened = c.in-Ok.opened in
    let is_open : IsOpen job (g.D.Desk.told c.args.desk.now) (g.D.Desk.told c.open_job.new.desk) opened.accepted opened.ports opened.drive = record { opened = c.in-Ok.ensures.opened; register_is = c.in-Ok.ensures.register; kept = λ t. c.open_job.ensures.kept t } in
    short_end job c.args.order (g.D.Desk.told c.args.desk.now) (g.D.Desk.told c.open_job.new.desk) (g.D.Desk.told c.read_vectors.new.desk) opened.accepted opened.ports opened.drive
    c.requires.mode (sym c.same_paths.ensures ∙ c.in_default.is) is_open c.in-Ok-read_vectors.ensures.same (λ t. c.read_vectors.ensures.others t)
