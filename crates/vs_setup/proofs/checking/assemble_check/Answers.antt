use Rattle.std.proofs.Common.{◌≡◌, List, sym, subst, ◌∙◌}
use Rattle.vs_program.specs.declared.compiled.Span.{Span}
use Rattle.vs_misses.specs.Watch.{AllFit}
use Rattle.vs_rounds.specs.Checked.{AreCheckParts}
use Rattle.vs_setup.specs.Loaded.{watched}
use Rattle.vs_setup.proofs.checking.assemble_check.Goals as goal

pub output_spans-requires : goal.output_spans-requires
output_spans-requires g c = rw c.flat.ensures.same c.flat.ensures.lawful

pub new-requires-clause-fit : goal.new-requires-clause-fit
new-requires-clause-fit g c =
    let outputs_are : c.in_ok-outputs.outputs.items ≡ watched c.args.opened.accepted = rw (c.outputs.ensures, c.flat.ensures.same, c.typed-typed.ensures) at c.in_ok-outputs.ensures.spans in
    subst (λ (os : List Span). AllFit os c.args.opened.drive) (sym outputs_are) c.requires.fit

pub new-requires-clause-few : goal.new-requires-clause-few
new-requires-clause-few g c = c.in_ok-outputs.ensures.few

pub returns-clause-stimuli : goal.returns-clause-stimuli
returns-clause-stimuli g c = c.in_ok-checker.ensures.stimuli

pub returns-clause-engine : goal.returns-clause-engine
returns-clause-engine g c = c.in_ok-checker.ensures.engine

pub returns-clause-outputs : goal.returns-clause-outputs
returns-clause-outputs g c =
    let outputs_are : c.in_ok-outputs.outputs.items ≡ watched c.args.opened.accepted = rw (c.outputs.ensures, c.flat.ensures.same, c.typed-typed.ensures) at c.in_ok-outputs.ensures.spans in
    c.in_ok-checker.ensures.outputs ∙ outputs_are

pub returns-clause-none : goal.returns-clause-none
returns-clause-none g c = c.in_ok-checker.ensures.none

pub returns-clause-ready : goal.returns-clause-ready
returns-clause-ready g c = λ d clocks parts.
    let outputs_are : c.in_ok-outputs.outputs.items ≡ watched c.args.opened.accepted = rw (c.outputs.ensures, c.flat.ensures.same, c.typed-typed.ensures) at c.in_ok-outputs.ensures.spans in
    c.in_ok-checker.ensures.ready d clocks (subst (λ (os : List Span). AreCheckParts d clocks c.args.opened.drive c.args.engine.program os) (sym outputs_are) parts)

pub returns-clause-size : goal.returns-clause-size
returns-clause-size g c = c.size-size.ensures
