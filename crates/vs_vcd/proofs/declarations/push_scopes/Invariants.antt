use Rattle.std.proofs.Common.{◌≡◌, ◌++◌, length}
use Rattle.std.specs.Prelude.{None}
use Rattle.vs_flat.specs.DesignOf.{design_of}
use Rattle.vs_vcd.specs.Scopes.{scopes_in, shown_signals}
use Rattle.vs_vcd.specs.Shared.{code_at, coded_by}
use Rattle.vs_vcd.specs.Steps.{steps_text, AreSteps}
use Rattle.vs_vcd.proofs.declarations.push_scopes.Given as goal

abbrev pub invariant-loop-step : goal.invariant-loop-step
invariant-loop-step l = record {
  text : l.text.items ++ steps_text (coded_by (code_at l.codes) (design_of l.flat)) l.steps.items ≡ l.initial.text.items ++ scopes_in (shown_signals (coded_by (code_at l.codes) (design_of l.flat))) None 0 (design_of l.flat).scopes;
  steps : AreSteps (coded_by (code_at l.codes) (design_of l.flat)) l.steps.items;
}

abbrev pub decreases-loop-step : goal.decreases-loop-step
decreases-loop-step l = length (steps_text (coded_by (code_at l.codes) (design_of l.flat)) l.steps.items)
