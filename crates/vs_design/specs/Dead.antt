-- Dead nets, which hold z throughout, and the design without the clocked blocks that wait for their edges alone.
use Rattle.std.specs.Prelude.{ℕ, Bool, true, false, not, ◌&&◌, List, [], filter, map, if◌then◌else◌, ◌==◌}
use Rattle.std.specs.List.{list_all}
use Rattle.vs_design.specs.Expressions.{Signal, signal_length}
use Rattle.vs_design.specs.Statements.{Empty}
use Rattle.vs_design.specs.Designs.{Event, has_edge, Written, InputPort, OutputPort, Process, Continuous, Always, is_clocked, process_place, Design}
use Rattle.vs_design.specs.Footprints.{contains, is_net}
use Rattle.vs_design.specs.Rules.{written_bits}
use Rattle.vs_design.specs.Clocks.{first_of, clock_nets}

-- a net of one bit that no process writes; an input is written from outside, and initial processes write variables alone
abbrev pub is_undriven : List ℕ → Signal → Bool
is_undriven written s = is_net s && (signal_length s == 1) && not (contains written s.first)

-- these nets, each by its bit: it is z (4.2)
abbrev pub undriven_nets : Design → List ℕ
undriven_nets d = map first_of (filter (is_undriven (written_bits d.processes)) d.signals)

-- an assign that stands for a port of an instance (12.3.9.2)
abbrev pub is_port : Process → Bool
is_port (Continuous place Written target_place target e) = false
is_port (Continuous place InputPort target_place target e) = true
is_port (Continuous place OutputPort target_place target e) = true
is_port (Always place star events statement) = false

-- the design as far as its ports copy nets
abbrev pub ports_alone : Design → Design
ports_alone d = record d { processes = filter is_port d.processes }

-- The dead nets: those, and what ports copy from a dead net. They are found as clock nets are, but along ports alone.
abbrev pub dead_nets : Design → List ℕ
dead_nets d = clock_nets (ports_alone d) (undriven_nets d)

-- an edge of a dead net, which never comes
abbrev pub is_dead_event : List ℕ → Event → Bool
is_dead_event nets e = has_edge e && contains nets e.signal.first

-- a clocked block all of whose events are such edges never runs
abbrev pub is_dead : List ℕ → Process → Bool
is_dead nets (Continuous place port target_place target e) = false
is_dead nets (Always place star events statement) = is_clocked (Always place star events statement) && list_all (is_dead_event nets) events

-- in its place stands `always @* ;`, so all other processes keep their numbers
abbrev pub left_of : List ℕ → Process → Process
left_of nets p = if is_dead nets p then Always (process_place p) true [] Empty else p

-- the design without its dead blocks: what they write has its initial value, or x
abbrev pub without_dead : Design → Design
without_dead d = record d { processes = map (left_of (dead_nets d)) d.processes }
