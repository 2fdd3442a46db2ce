-- A block among the processes of a flat design.
use Rattle.std.specs.Prelude.{◌≡◌, ◌≢◌, ◌<◌, ℕ, Bool, true, List, Some, length, map, slice_get}
use Rattle.vs_design.specs.Designs.{Always}
use Rattle.vs_design.specs.Elaborated.{is_formed_statement}
use Rattle.vs_design.specs.Fits.{fits_statement}
use Rattle.vs_flat.specs.declared.processes.Event.{Event}
use Rattle.vs_flat.specs.declared.processes.Process.{Process}
use Rattle.vs_flat.specs.declared.processes.Kind.TheVariants.{Block}
use Rattle.vs_flat.specs.Arena.{Arena}
use Rattle.vs_flat.specs.Trees.{signal_at}
use Rattle.vs_flat.specs.DesignOf.{arena_signals, event_of, design_of}
use Rattle.vs_shape.specs.Bodies.{body_of}
use Rattle.vs_full.specs.Found.{AreSound, Found, IsMarked}

-- process p begins at this place, with these events and this statement, of which nothing is over 64 bits, formed as in a lawful design
pub record IsBlock (a : Arena) (p place : ℕ) (events : List Event) (statement : ℕ) : Type 0 where
  pub star : Bool
  pub is : slice_get (design_of a).processes p ≡ Some (Always place star (map (event_of (signal_at (arena_signals a))) events) (body_of a statement))
  pub there : statement < length a.statements
  pub fits : fits_statement (body_of a statement) ≡ true
  pub formed : is_formed_statement (design_of a) (body_of a statement) ≡ true
  pub found : (r : Process) × (slice_get a.processes p ≡ Some r) × (r.kind ≡ Block star events statement)

-- process p is marked, and the processes that were are marked as they were
pub record IsLooked (a : Arena) (p : ℕ) (before after : Found) : Type 0 where
  pub sound : AreSound a after
  pub marked : IsMarked a after p
  pub others : (q : ℕ) → q ≢ p → IsMarked a before q → IsMarked a after q
