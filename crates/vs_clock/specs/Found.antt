-- What is found of the resets of processes.
use Rattle.std.specs.Prelude.{◌≡◌, ◌<◌, ℕ, Bool, true, false, List, is_some, length, Option, Some, None}
use Rattle.vs_design.specs.Statements.{Statement}
use Rattle.vs_design.specs.Designs.{is_edge, Process}
use Rattle.vs_design.specs.Designs as D
use Rattle.vs_design.specs.Clocks.{clock_nets, root_of}
use Rattle.vs_design.specs.Resets.{reset_branch, reset_with, reset_of, has_other_form}
use Rattle.vs_flat.specs.Arena.{Arena}
use Rattle.vs_flat.specs.DesignOf.{design_of}
use Rattle.vs_clock.specs.declared.resets.BlockReset.{BlockReset}
use Rattle.vs_clock.specs.declared.resets.BlockReset.TheVariants as B
use Rattle.vs_clock.specs.declared.resets.Forms.{Forms}
use Rattle.vs_clock.specs.declared.resets.Forms.TheVariants as F
use Rattle.vs_clock.specs.Resets.{plain_branch, plain_reset, IsResetOf, AreAllResets}
use Rattle.vs_clock.specs.Tests.{IsFirst}

-- the branch of a statement by this event
abbrev pub branch_at : D.Event → Statement → Option Statement
branch_at e s = reset_branch e.edge e.signal.first s

-- the reset of a block with this statement by this event
abbrev pub IsEventReset : Arena → List ℕ → D.Event → Statement → BlockReset → Type 0
IsEventReset a clocks e s B.Formless = branch_at e s ≡ None
IsEventReset a clocks e s B.Absent = (is_some (branch_at e s) ≡ true) × (reset_with e (root_of (design_of a) clocks e.signal.first) (branch_at e s) ≡ None)
IsEventReset a clocks e s (B.Present r) =
    (branch_at e s ≡ Some (plain_branch a r)) × (reset_with e (root_of (design_of a) clocks e.signal.first) (branch_at e s) ≡ Some (plain_reset a r)) × (is_edge r.edge ≡ true) × (r.branch < length a.statements)

abbrev pub other_form : Arena → List ℕ → Process → Bool
other_form a clocks x = has_other_form (clock_nets (design_of a) clocks) (root_of (design_of a) clocks) x

-- what a process has of a reset
abbrev pub IsBlockReset : Arena → List ℕ → Process → BlockReset → Type 0
IsBlockReset a clocks x B.Formless = other_form a clocks x ≡ true
IsBlockReset a clocks x B.Absent = (other_form a clocks x ≡ false) × (reset_of (design_of a) clocks x ≡ None)
IsBlockReset a clocks x (B.Present r) = (other_form a clocks x ≡ false) × IsResetOf a clocks x r

-- the first process without the form of a block with a reset, or the resets of all
abbrev pub AreForms : Arena → List ℕ → Forms → Type 0
AreForms a clocks (F.Formless p) = IsFirst (design_of a) (other_form a clocks) (Some p)
AreForms a clocks (F.All resets) = IsFirst (design_of a) (other_form a clocks) None × AreAllResets a clocks resets.items
