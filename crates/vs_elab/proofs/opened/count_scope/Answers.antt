use Rattle.std.proofs.Common.{[], ◌+◌, sym, refl, ◌∙◌}
use Rattle.vs_elab.specs.declared.reading.Counts.{Counts}
use Rattle.vs_elaborated.specs.Surveys.{no_loops}
use Rattle.vs_elab.specs.Reading.{task_of, totals_of}
use Rattle.vs_elab.proofs.CountedScopes.{module_is, few_within}
use Rattle.vs_elab.proofs.opened.count_scope.Goals as goal

pub returns-in-Module-clause-limited : goal.returns-in-Module-clause-limited
returns-in-Module-clause-limited c = λ frames loops.
    let counts : Counts = record { start = c.args.counts.start; instances = c.args.counts.instances + 1; turns = c.args.counts.turns; functions = c.args.counts.functions; processes = c.args.counts.processes } in
    c.limit_fault.ensures (task_of frames c.args.scope) (totals_of counts loops) (module_is frames c.args.scope.overrides.now c.args.scope.contents c.in-Module.field-0 c.in-Module.is) refl refl refl

pub returns-in-Module-clause-few : goal.returns-in-Module-clause-few
returns-in-Module-clause-few c = λ none.
    let counts : Counts = record { start = c.args.counts.start; instances = c.args.counts.instances + 1; turns = c.args.counts.turns; functions = c.args.counts.functions; processes = c.args.counts.processes } in
    let instance = module_is [] c.args.scope.overrides.now c.args.scope.contents c.in-Module.field-0 c.in-Module.is in
    few_within (task_of [] c.args.scope) (totals_of counts no_loops) instance (sym (c.limit_fault.ensures (task_of [] c.args.scope) (totals_of counts no_loops) instance refl refl refl) ∙ none)
