-- The places of what is too wide or divides, in a statement.
use Rattle.std.specs.Prelude.{◌≡◌, ◌↔◌, ℕ, true, []}
use Rattle.vs_design.specs.Expressions.{Items}
use Rattle.vs_design.specs.Statements.{Statement}
use Rattle.vs_design.specs.Designs.{Design}
use Rattle.vs_design.specs.Elaborated.{is_formed_statement}
use Rattle.vs_design.specs.Fits.{fits_statement}
use Rattle.vs_design.specs.Refusals.{over_64, wide_places, wide_in_items, wide_in_statement, division_places, divisions_in_items, divisions_in_statement, in_items, in_statement}

-- they are the same of a block's statement and of a function's, and of an arm's items and of a call's arguments
abbrev pub ItemPlacesAgree : Type 0
ItemPlacesAgree = (es : Items) (at : ℕ) → (in_items wide_places at es ≡ wide_in_items at es) × (in_items division_places at es ≡ divisions_in_items at es)

abbrev pub StatementPlacesAgree : Type 0
StatementPlacesAgree = (s : Statement) (at : ℕ) → (in_statement wide_places over_64 at s ≡ wide_in_statement at s) × (in_statement division_places (λ at n. []) at s ≡ divisions_in_statement at s)

-- in a formed statement all fits exactly where there is no such place
abbrev pub StatementFits : Type 0
StatementFits = (d : Design) (s : Statement) → is_formed_statement d s ≡ true → (at : ℕ) → (fits_statement s ≡ true) ↔ ((wide_in_statement at s ≡ []) × (divisions_in_statement at s ≡ []))
