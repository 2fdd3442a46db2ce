use Rattle.std.proofs.Common.{◌≡◌, List, ap, ◌∙◌, subst, refl}
use Rattle.std.specs.List.{Contains}
use Rattle.vs_code.specs.Calls.{Call, targets_of}
use Rattle.vs_program.specs.declared.compiled.Compiled.TheInside.{Inside}
use Rattle.vs_program.specs.declared.compiled.Phase.{Phase}
use Rattle.vs_program.specs.declared.compiled.Phase.TheVariants.{First, Fall, Next, Rise}
use Rattle.vs_program.specs.declared.compiled.Run.{Run}
use Rattle.vs_program.specs.Kept.{program_of}
use Rattle.vs_program.specs.Phases.{calls_of_runs, runs_at}
use Rattle.vs_program.specs.Program.{Program, calls_at}
use Rattle.vs_program.proofs.compiled.Compiled.execute.Goals as goal

-- the calls of a phase are those of its runs
of_phase : (c : Inside) (phase : Phase) → calls_of_runs c.calls (runs_at c.phases phase) ≡ calls_at (program_of c) phase
of_phase c First = refl
of_phase c Fall = refl
of_phase c Next = refl
of_phase c Rise = refl

pub returns-clause-kept : goal.returns-clause-kept
returns-clause-kept g c = λ slot other.
    let same : calls_of_runs c.self.inside.calls c.runs.result.now ≡ calls_at c.args.self.now c.args.phase =
    ap (λ (runs : List Run). calls_of_runs c.self.inside.calls runs) c.runs.ensures
    ∙ of_phase c.self.inside c.args.phase
    ∙ ap (λ (p : Program). calls_at p c.args.phase) c.self.view_is in
    c.execute_runs.ensures.kept slot (λ h. other (subst (λ (calls : List Call). Contains (targets_of calls) slot) same h))
