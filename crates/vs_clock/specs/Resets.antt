-- What is told of the resets of a design.
use Rattle.std.specs.Prelude.{◌≡◌, ◌<◌, ◌==◌, ℕ, Bool, true, false, List, length, slice_get, slice_index_or, Option, Some, None}
use Rattle.std.specs.List.{list_any}
use Rattle.vs_net.specs.Network as N
use Rattle.vs_design.specs.Statements.{Statement}
use Rattle.vs_design.specs.Designs.{is_edge, Process, Always, Design}
use Rattle.vs_design.specs.Clocks.{Events, ByBoth, events_of, clock_nets, root_of}
use Rattle.vs_design.specs.Resets.{net_edge, branch_writes, branch_updates, reset_branch, reset_of}
use Rattle.vs_flat.specs.Arena.{Arena}
use Rattle.vs_flat.specs.Trees.{statement_at}
use Rattle.vs_flat.specs.DesignOf.{arena_statements, design_of}
use Rattle.vs_clock.specs.declared.resets.Reset.{Reset}

-- the branch that runs at the reset of a block with these events and this statement
abbrev pub branch_by : Option Events → Statement → Option Statement
branch_by (Some (ByBoth clock reset)) s = reset_branch reset.edge reset.signal.first s
branch_by _ s = None

abbrev pub branch_of : Design → List ℕ → Process → Option Statement
branch_of d clocks (Always place star events s) = branch_by (events_of (clock_nets d clocks) (root_of d clocks) events) s
branch_of d clocks _ = None

-- the plain statement of the branch, and the reset as the plain design has it
abbrev pub plain_branch : Arena → Reset → Statement
plain_branch a r = statement_at (arena_statements a) r.branch

abbrev pub plain_reset : Arena → Reset → N.Reset
plain_reset a r = record { net = r.net; edge = net_edge r.edge; input = r.input; writes = branch_writes (plain_branch a r); updates = branch_updates (plain_branch a r) }

-- the reset of a process, in the design that has these clocks
pub record IsResetOf (a : Arena) (clocks : List ℕ) (x : Process) (r : Reset) : Type 0 where
  pub is : reset_of (design_of a) clocks x ≡ Some (plain_reset a r)
  pub branch : branch_of (design_of a) clocks x ≡ Some (plain_branch a r)
  pub edge : is_edge r.edge ≡ true
  pub there : r.branch < length a.statements

-- and there is none exactly where the design has none
abbrev pub IsReset : Arena → List ℕ → Process → Option Reset → Type 0
IsReset a clocks x None = reset_of (design_of a) clocks x ≡ None
IsReset a clocks x (Some r) = IsResetOf a clocks x r

abbrev pub reset_at : List (Option Reset) → ℕ → Option Reset
reset_at resets p = slice_index_or resets p None

-- of all processes by number
pub record AreAllResets (a : Arena) (clocks : List ℕ) (resets : List (Option Reset)) : Type 0 where
  pub count : length resets ≡ length (design_of a).processes
  pub each : (p : ℕ) (x : Process) → slice_get (design_of a).processes p ≡ Some x → IsReset a clocks x (reset_at resets p)

-- some of these resets copies the input
abbrev pub is_from : ℕ → Option Reset → Bool
is_from b None = false
is_from b (Some r) = b == r.input

abbrev pub has_input : List (Option Reset) → ℕ → Bool
has_input resets b = list_any (is_from b) resets

-- all their inputs are below this number
abbrev pub HasInputs : ℕ → List (Option Reset) → Type 0
HasInputs n resets = (k : ℕ) (r : Reset) → slice_get resets k ≡ Some (Some r) → r.input < n
