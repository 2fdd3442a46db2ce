use Rattle.std.proofs.Common.{ℕ, List, length, sym, ap, subst, arith}
use Rattle.vs_feed.specs.Opened.{texts}
use Rattle.vs_setup.specs.declared.error.SetupError.{SetupError}
use Rattle.vs_setup.specs.Unprepared.{IsUnopened, error_of}
use Rattle.vs_setup.proofs.Opening.{unopened}
use Rattle.vs_setup.proofs.setup.open_stimuli.Goals as goal

pub stopped_at-requires : goal.stopped_at-requires
stopped_at-requires g c = omega (arith, c.in-Err.ensures.stopped.lane, ap length c.in_ok-paths.ensures, c.requires.lanes)

pub returns-in-Err-clause-unopened : goal.returns-in-Err-clause-unopened
returns-in-Err-clause-unopened g c =
    let old = g.D.Desk.told c.args.desk.now in
    let new = g.D.Desk.told c.open.new.desk in
    let paths = texts c.in_ok-paths.paths.items in
    let lane = c.in-Err.stopped.lane in
    let error = c.in-Err.stopped.error in
    subst (λ (e : SetupError). IsUnopened c.args.ports.now c.args.job.now.stimuli old new e) (sym c.stopped_at.ensures)
    (subst (λ (ps : List (List ℕ)). IsUnopened c.args.ports.now ps old new (error_of lane error)) c.in_ok-paths.ensures
    (unopened c.args.ports.now paths old new lane error c.in-Err.ensures.stopped))
