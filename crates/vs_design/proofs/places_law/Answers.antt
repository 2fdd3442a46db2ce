use Rattle.vs_design.proofs.WidthExact.{statement_clear, statement_narrow, statement_undivided, wide_items, divided_items, wide_statement, divided_statement}
use Rattle.vs_design.proofs.places_law.Goals as goal

pub returns : goal.returns
returns c = record {
  items = λ es at. (wide_items es at, divided_items es at);
  statements = λ s at. (wide_statement s at, divided_statement s at);
  fits = λ d s f at. (λ h. (statement_narrow s at h, statement_undivided s at h), λ h. statement_clear d s at f h.0 h.1);
}
