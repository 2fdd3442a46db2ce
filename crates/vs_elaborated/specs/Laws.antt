-- What holds of every elaborated design.
use Rattle.std.specs.Prelude.{◌≡◌, ◌≤◌, ℕ, List, Some, Ok}
use Rattle.vs_design.specs.Designs.{Design}
use Rattle.vs_design.specs.Elaborated.{IsLawfulDesign}
use Rattle.vs_grammar.specs.Trees.{Module, Source}
use Rattle.vs_grammar.specs.Shapes.{IsShaped}
use Rattle.vs_elaborated.specs.Limits.{Limits}
use Rattle.vs_elaborated.specs.Ports.{find_module}
use Rattle.vs_elaborated.specs.Surveys.{no_totals}
use Rattle.vs_elaborated.specs.Elaborated.{read_scope, top_task, scope_depth, elaborated}

-- every design that elaboration gives of a text is lawful
abbrev pub ElaboratedIsLawful : Type 0
ElaboratedIsLawful = (source : Source) (top : List ℕ) (d : Design) → IsShaped source → elaborated source top ≡ Ok d → IsLawfulDesign d

-- scopes stand no deeper within one another than elaboration reads: were it to read deeper, it would say the same, whatever the limits
abbrev pub DepthIsEnough : Type 0
DepthIsEnough = (limits : Limits) (source : Source) (top : List ℕ) (m : Module) (left : ℕ) → IsShaped source → find_module source top ≡ Some m → scope_depth limits ≤ left
    → read_scope left limits source (top_task m) no_totals ≡ read_scope (scope_depth limits) limits source (top_task m) no_totals
