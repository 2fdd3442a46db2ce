-- The processes that a slot has to run: all but the clocks' ports in a first one, and in a later one those that changed bits lead to.
use Rattle.std.specs.Prelude.{ℕ, Bool, false, not, List, [], ◌∷◌, ◌++◌, if◌then◌else◌, Option, Some, None, slice_get}
use Rattle.std.specs.List.{list_any, filter}
use Rattle.vs_design.specs.Designs.{Process, Design}
use Rattle.vs_design.specs.Footprints.{contains, writes_of}
use Rattle.vs_design.specs.Levels.{needs}
use Rattle.vs_design.specs.Clocks.{clock_nets, is_clock_port}

-- the bits that this process reads or waits on; of none there are none
abbrev pub needs_or : Option Process → List ℕ
needs_or None = []
needs_or (Some x) = needs x

-- the bits that it writes
abbrev pub writes_or : Option Process → List ℕ
writes_or None = []
writes_or (Some x) = writes_of x

-- whether it is a port that copies a clock
abbrev pub is_port_or : List ℕ → Option Process → Bool
is_port_or nets None = false
is_port_or nets (Some x) = is_clock_port nets x

-- the bits that the process of this number reads or waits on
abbrev pub needs_at : Design → ℕ → List ℕ
needs_at d p = needs_or (slice_get d.processes p)

-- the bits that the process of this number writes
abbrev pub writes_at : Design → ℕ → List ℕ
writes_at d p = writes_or (slice_get d.processes p)

-- it reads or waits on one of these bits
abbrev pub is_touched : Design → List ℕ → ℕ → Bool
is_touched d changed p = list_any (contains changed) (needs_at d p)

-- of the order the processes that these bits lead to: each that needs one of them, or a bit that one before it in the cone writes
abbrev pub cone : Design → List ℕ → List ℕ → List ℕ
cone d changed [] = []
cone d changed (p ∷ order) = if is_touched d changed p then (p ∷ cone d (writes_at d p ++ changed) order) else cone d changed order

-- of the order the processes but the ports that copy clocks
abbrev pub but_ports : Design → List ℕ → List ℕ → List ℕ
but_ports d clocks order = filter (λ p. not (is_port_or (clock_nets d clocks) (slice_get d.processes p))) order
