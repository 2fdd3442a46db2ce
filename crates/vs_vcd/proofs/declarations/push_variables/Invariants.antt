use Rattle.std.proofs.Common.{◌≡◌, ◌++◌, length}
use Rattle.vs_flat.specs.DesignOf.{design_of}
use Rattle.vs_vcd.specs.Scopes.{variables, shown_signals}
use Rattle.vs_vcd.specs.Shared.{code_at, coded_by}
use Rattle.vs_vcd.specs.Steps.{signal_keys}
use Rattle.vs_vcd.proofs.Grouping.{numbers_left, IsLink}
use Rattle.vs_vcd.proofs.Outline.{variables_at}
use Rattle.vs_vcd.proofs.declarations.push_variables.Given as goal

abbrev pub invariant-loop-link : goal.invariant-loop-link
invariant-loop-link l = record {
  text : l.text.items ++ variables_at (coded_by (code_at l.codes) (design_of l.flat)).signals l.scope l.link ≡ l.initial.text.items ++ variables (shown_signals (coded_by (code_at l.codes) (design_of l.flat))) l.scope;
  linked : IsLink (signal_keys (coded_by (code_at l.codes) (design_of l.flat)).signals) l.scope l.link;
}

abbrev pub decreases-loop-link : goal.decreases-loop-link
decreases-loop-link l = numbers_left (length (coded_by (code_at l.codes) (design_of l.flat)).signals) l.link
