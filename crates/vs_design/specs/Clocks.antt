-- The clocks, the clock nets and the reset nets, and the rules NoClock, ClockRead and NotTheClock.
use Rattle.std.specs.Prelude.{ℕ, zero, suc, Bool, true, false, not, ◌&&◌, List, [], ◌∷◌, ◌++◌, find, filter, map, is_some, length, if◌then◌else◌, ◌==◌, nat_lt, Option, Some, None}
use Rattle.std.specs.List.{list_any}
use Rattle.vs_design.specs.Expressions.{Signal, signal_length, Expression, Name, At}
use Rattle.vs_design.specs.Statements.{Whole}
use Rattle.vs_design.specs.Designs.{Edge, Posedge, Event, Process, Continuous, Always, is_clocked, has_edge, Design, top_inputs, bit_count}
use Rattle.vs_design.specs.Footprints.{contains, reads_of, waits_of}

abbrev pub same_name : List ℕ → List ℕ → Bool
same_name [] [] = true
same_name (a ∷ xs) (b ∷ ys) = (a == b) && same_name xs ys
same_name _ _ = false

-- the one-bit input of the top that has this name
abbrev pub named_input : Design → List ℕ → Option Signal
named_input d name = find (λ s. s.input && same_name s.name name && (signal_length s == 1)) d.signals

-- where no clock is named a signal takes the place of one whose bit isn't one of the design's, and which none of the design's signals is: no process reads it or waits on it
abbrev pub spare_clock : Design → Signal
spare_clock d = record { name = []; scope = 0; number = length d.signals; net = true; input = true; range = None; signed = false; first = bit_count d; words = None; integer = false }

-- a first signal and others, where all are there
abbrev pub and_inputs : Option Signal → Option (List Signal) → Option (List Signal)
and_inputs (Some s) (Some ss) = Some (s ∷ ss)
and_inputs _ _ = None

-- the one-bit inputs of the top that have these names, where each has one and no name is there twice
abbrev pub named_inputs : Design → List (List ℕ) → Option (List Signal)
named_inputs d [] = Some []
named_inputs d (name ∷ names) = if list_any (same_name name) names then None else and_inputs (named_input d name) (named_inputs d names)

-- the clocks by their names, one at least; the rule NoClock where a name is given that is none of a one-bit input's, or is given twice
abbrev pub clock_inputs : Design → List (List ℕ) → Option (List Signal)
clock_inputs d [] = Some (spare_clock d ∷ [])
clock_inputs d (name ∷ names) = named_inputs d (name ∷ names)

abbrev pub first_of : Signal → ℕ
first_of s = s.first

-- these clocks, each by its bit
abbrev pub clock_bits : List Signal → List ℕ
clock_bits clocks = map first_of clocks

-- the first of them
abbrev pub first_clock : List ℕ → ℕ
first_clock [] = 0
first_clock (clock ∷ clocks) = clock

-- the signal that the expression is the name of; round brackets are no matter
abbrev pub name_of : Expression → Option Signal
name_of (Name signal) = Some signal
name_of (At place e) = name_of e
name_of _ = None

abbrev pub is_one_of : List ℕ → Option Signal → Bool
is_one_of nets (Some s) = (signal_length s == 1) && contains nets s.first
is_one_of nets None = false

-- the bit of the one-bit net that is the whole target of an assign, a port's or a written one, where the expression is the name of a clock net alone; these are clock nets
abbrev pub port_target : List ℕ → Process → List ℕ
port_target nets (Continuous place port target_place (Whole signal) e) = if is_one_of nets (name_of e) && (signal_length signal == 1) then (signal.first ∷ []) else []
port_target nets _ = []

abbrev pub port_targets : List ℕ → List Process → List ℕ
port_targets nets [] = []
port_targets nets (p ∷ ps) = port_target nets p ++ port_targets nets ps

-- the clock nets that are at most so many assigns away from the inputs
abbrev pub nets_within : ℕ → List Process → List ℕ → List ℕ
nets_within zero ps clocks = clocks
nets_within (suc n) ps clocks = clocks ++ port_targets (nets_within n ps clocks) ps

-- the clock nets, each by its one bit
abbrev pub clock_nets : Design → List ℕ → List ℕ
clock_nets d clocks = nets_within (length d.processes) d.processes clocks

-- the clocks that are bits of the design
abbrev pub own_clocks : Design → List ℕ → List ℕ
own_clocks d clocks = filter (λ c. nat_lt c (bit_count d)) clocks

-- and their clock nets: without a clock there are none
abbrev pub own_nets : Design → List ℕ → List ℕ
own_nets d clocks = clock_nets d (own_clocks d clocks)

abbrev pub is_clock_port : List ℕ → Process → Bool
is_clock_port nets p = not (length (port_target nets p) == 0)

-- the rule ClockRead: the process reads or waits on a clock net and isn't such an assign
abbrev pub reads_clock : List ℕ → Process → Bool
reads_clock nets p = not (is_clock_port nets p) && list_any (contains nets) (reads_of p ++ waits_of p)

abbrev pub edge_bit : Edge → Signal → Option ℕ
edge_bit Posedge s = if signal_length s == 1 then Some s.first else None
edge_bit _ s = None

abbrev pub is_clock_net : List ℕ → Option ℕ → Bool
is_clock_net nets (Some b) = contains nets b
is_clock_net nets None = false

-- ---- resets

-- a data input of the top that has one bit may be a reset
abbrev pub may_reset : List ℕ → Signal → Bool
may_reset clocks s = (signal_length s == 1) && not (contains clocks s.first)

-- these inputs, each by its bit
abbrev pub one_bit_inputs : Design → List ℕ → List ℕ
one_bit_inputs d clocks = map first_of (filter (may_reset clocks) (top_inputs d))

-- The reset input that a bit copies. Reset nets are found as clock nets are: the input, and each one-bit net that is the whole target of an assign whose expression is the name of a reset net alone.
abbrev pub root_of : Design → List ℕ → ℕ → Option ℕ
root_of d clocks b = find (λ i. contains (clock_nets d (i ∷ [])) b) (one_bit_inputs d clocks)

-- a posedge of a clock net, whichever clock it copies
abbrev pub is_clock_event : List ℕ → Event → Bool
is_clock_event nets e = is_clock_net nets (edge_bit e.edge e.signal)

-- a posedge or a negedge of a reset net
abbrev pub is_reset_event : (ℕ → Option ℕ) → Event → Bool
is_reset_event roots e = has_edge e && (signal_length e.signal == 1) && is_some (roots e.signal.first)

-- the events of a clocked block, in either order in the text
pub data Events : Type 0 where
  ByClock : (clock : Event) → Events
  ByBoth : (clock reset : Event) → Events

abbrev pub both_events : List ℕ → (ℕ → Option ℕ) → Event → Event → Option Events
both_events nets roots e f =
    if is_clock_event nets e && is_reset_event roots f then Some (ByBoth e f) else (if is_clock_event nets f && is_reset_event roots e then Some (ByBoth f e) else None)

abbrev pub events_of : List ℕ → (ℕ → Option ℕ) → List Event → Option Events
events_of nets roots (e ∷ []) = if is_clock_event nets e then Some (ByClock e) else None
events_of nets roots (e ∷ f ∷ []) = both_events nets roots e f
events_of nets roots _ = None

abbrev pub block_events : List ℕ → (ℕ → Option ℕ) → Process → Option Events
block_events nets roots (Always place star events statement) = events_of nets roots events
block_events nets roots _ = None

-- the rule NotTheClock: the events of a clocked block aren't exactly one posedge of a clock net, or that and one edge of a reset net
abbrev pub has_other_clock : List ℕ → (ℕ → Option ℕ) → Process → Bool
has_other_clock nets roots p = is_clocked p && not (is_some (block_events nets roots p))

-- the clock net of these events
abbrev pub clock_bit : Option Events → ℕ
clock_bit (Some (ByClock clock)) = clock.signal.first
clock_bit (Some (ByBoth clock reset)) = clock.signal.first
clock_bit None = 0
