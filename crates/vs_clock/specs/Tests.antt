-- The tests of processes, one after the other.
use Rattle.std.specs.Prelude.{◌≡◌, ℕ, ◌<◌, Bool, false, slice_get, Option, Some, None}
use Rattle.vs_design.specs.Expressions.{Signal}
use Rattle.vs_design.specs.Designs.{Process, Design}
use Rattle.vs_design.specs.Designs as D
use Rattle.vs_design.specs.Clocks.{Events, ByClock, ByBoth}
use Rattle.vs_design.specs.RefusalLaws.{IsFirstOf}
use Rattle.vs_flat.specs.DesignOf.{event_of}
use Rattle.vs_clock.specs.declared.events.BlockEvents.{BlockEvents}
use Rattle.vs_clock.specs.declared.events.BlockEvents.TheVariants.{Clock, Reset, Other}

-- the first process that fails a test, or none does
abbrev pub IsFirst : Design → (Process → Bool) → Option ℕ → Type 0
IsFirst d breaks None = (p : ℕ) (x : Process) → slice_get d.processes p ≡ Some x → breaks x ≡ false
IsFirst d breaks (Some p) = (x : Process) × IsFirstOf d breaks p x

-- no process before p does
abbrev pub NoneBefore : Design → (Process → Bool) → ℕ → Type 0
NoneBefore d breaks p = (q : ℕ) (x : Process) → q < p → slice_get d.processes q ≡ Some x → breaks x ≡ false

-- the events of a clocked block: its clock, or that and this one
abbrev pub AreEvents : (ℕ → Signal) → BlockEvents → Option Events → Type 0
AreEvents signal Other events = events ≡ None
AreEvents signal Clock events = (clock : D.Event) × (events ≡ Some (ByClock clock))
AreEvents signal (Reset e) events = (clock : D.Event) × (events ≡ Some (ByBoth clock (event_of signal e)))

-- and this event's signal is among so many
abbrev pub HasSignal : ℕ → BlockEvents → Type 0
HasSignal count Other = Unit {0}
HasSignal count Clock = Unit {0}
HasSignal count (Reset e) = e.signal < count
