-- What a process of a lawful design names.
use Rattle.std.specs.Prelude.{◌≡◌, ◌<◌, ℕ, true, List, length, slice_get, Some}
use Rattle.vs_design.specs.Fits.{is_fit, fits_statement}
use Rattle.vs_flat.specs.declared.processes.Event.{Event}
use Rattle.vs_flat.specs.declared.processes.Kind.{Kind}
use Rattle.vs_flat.specs.declared.processes.Kind.TheVariants as K
use Rattle.vs_flat.specs.Arena.{Arena}
use Rattle.vs_shape.specs.Nodes.{tree_of}
use Rattle.vs_shape.specs.Bodies.{body_of}
use Rattle.vs_shape.specs.Walked.{IsTarget}

abbrev pub EachSignalBelow : ℕ → List Event → Type 0
EachSignalBelow n events = (k : ℕ) (e : Event) → slice_get events k ≡ Some e → e.signal < n

pub record AssignIsFit (a : Arena) (target e : ℕ) : Type 0 where
  pub target_there : target < length a.nodes
  pub expression_there : e < length a.nodes
  pub target_fits : IsTarget (tree_of a target)
  pub expression_fits : is_fit (tree_of a e) ≡ true

pub record BlockIsFit (a : Arena) (events : List Event) (statement : ℕ) : Type 0 where
  pub events_there : EachSignalBelow (length a.signals) events
  pub statement_there : statement < length a.statements
  pub statement_fits : fits_statement (body_of a statement) ≡ true

-- all that it names is there and has 1 to 64 bits
abbrev pub IsFitKind : Arena → Kind → Type 0
IsFitKind a (K.Assign target e port) = AssignIsFit a target e
IsFitKind a (K.Block star events statement) = BlockIsFit a events statement
