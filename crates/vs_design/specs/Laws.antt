-- The laws of a design.
use Rattle.std.specs.Prelude.{◌≡◌, ℕ, true, false, not, ◌&&◌, List, [], ◌∷◌, ◌≤◌, ◌<◌, ◌↔◌, ◌⊎◌, length, ◌++◌, nat_lt, Some, slice_get}
use Rattle.std.specs.List.{list_any, list_all}
use Rattle.std.specs.List.Sorted.{IsStrictlyIncreasing}
use Rattle.vs_net.specs.Network.{State, Sleeper}
use Rattle.vs_net.specs.Lawful.{IsLawful, IsKnown}
use Rattle.vs_net.specs.Queue.{Slot, Fall, Rise, Choice, IsFirst, IsCompleted, start, slots_of, ends}
use Rattle.vs_net.specs.Solution.{all_x, beginning, IsSolution, IsSlotEnd}
use Rattle.vs_net.specs.Settle.{settle, IsFed}
use Rattle.vs_net.specs.Laws.{IsKnownVector, AreKnownResets, has_run, IsAfterSlot}
use Rattle.vs_net.specs.LevelRun.{level_run}
use Rattle.vs_net.specs.Bound.{IsWeighed, bound, IsPartOfRun, HasNoNext}
use Rattle.vs_design.specs.Statements.{Statement}
use Rattle.vs_design.specs.Designs.{Event, Process, Always, is_clocked, Initial, Design, bit_count}
use Rattle.vs_design.specs.Initials.{start_value, IsOrderOf}
use Rattle.vs_design.specs.Selects.{data_selects}
use Rattle.vs_design.specs.Footprints.{contains, all_reads, writes_of, waits_of, signals_bits, input_bits, ascending}
use Rattle.vs_design.specs.Rules.{missing_bits}
use Rattle.vs_design.specs.Clocks.{port_targets, clock_bits, clock_nets, root_of, reads_clock, has_other_clock}
use Rattle.vs_design.specs.Networks.{network_in, network_of}
use Rattle.vs_design.specs.Bounds.{feeds_of, size_of}
use Rattle.vs_design.specs.Levels.{level_order, is_level_order}
use Rattle.vs_design.specs.Elaborated.{IsLawfulDesign}
use Rattle.vs_design.specs.Cycles.{IsDecided, IsOrder}
use Rattle.vs_design.specs.Races.{stir, DependsOn, race_bits}
use Rattle.vs_design.specs.Refusals.{IsUnrefused}
use Rattle.vs_design.specs.Sleepers.{is_still, is_sleeping, sleeper_at}
use Rattle.vs_design.specs.TimeZero.{Families, families, quiet_process, wakes}
use Rattle.vs_design.specs.Equations.{IsBlock, IsOrderly, IsSolved}
use Rattle.vs_design.specs.Accepted.{IsAcceptedDesign, is_empty}

-- where elaboration gives the design, all bits that a process reads, writes and waits on are bits of the design
abbrev pub BitsOfDesign : Type 0
BitsOfDesign = (d : Design) → IsLawfulDesign d → (p : ℕ) (process : Process) → slice_get d.processes p ≡ Some process
    → (b : ℕ) → contains (all_reads process ++ (writes_of process ++ waits_of process)) b ≡ true → b < bit_count d

-- `@*` waits on every signal that is read, so no bit is missing
abbrev pub StarMissesNone : Type 0
StarMissesNone = (d : Design) → IsLawfulDesign d → (p place : ℕ) (events : List Event) (st : Statement) → slice_get d.processes p ≡ Some (Always place true events st) → missing_bits (Always place true events st) ≡ []

-- an ascending list has the bits of the list that are below the count, each once
abbrev pub AscendingHas : Type 0
AscendingHas = (count : ℕ) (bs : List ℕ) (b : ℕ) → contains (ascending count bs) b ≡ (contains bs b && nat_lt b count)

abbrev pub AscendingRises : Type 0
AscendingRises = (count : ℕ) (bs : List ℕ) → IsStrictlyIncreasing (ascending count bs)

-- the clock nets are the clock inputs, and each one-bit net that is the whole target of an assign, written or of any port, whose expression is the name of a clock net alone
abbrev pub ClockNetsAre : Type 0
ClockNetsAre = (d : Design) (clocks : List ℕ) (b : ℕ) → (contains (clock_nets d clocks) b ≡ true) ↔ ((contains clocks b ≡ true) ⊎ (contains (port_targets (clock_nets d clocks) d.processes) b ≡ true))

-- each of them copies one of the clocks: the nets of several are those of each
abbrev pub NetsOfEach : Type 0
NetsOfEach = (d : Design) (clocks : List ℕ) (b : ℕ) → (contains (clock_nets d clocks) b ≡ true) ↔ ((c : ℕ) × (contains clocks c ≡ true) × (contains (clock_nets d (c ∷ [])) b ≡ true))

-- Without a clock the bit that stands for it is none of the design's: no assign copies it, nothing reads it or waits on it, and each clocked block has another clock.
abbrev pub SpareClockIs : Type 0
SpareClockIs = (d : Design) → IsLawfulDesign d → (clock : ℕ) → bit_count d ≤ clock
    → (clock_nets d (clock ∷ []) ≡ clock ∷ []) × (list_any (reads_clock (clock_nets d (clock ∷ []))) d.processes ≡ false)
    × ((p : ℕ) (process : Process) → slice_get d.processes p ≡ Some process → is_clocked process ≡ true → has_other_clock (clock_nets d (clock ∷ [])) (root_of d (clock ∷ [])) process ≡ true)

-- where no rule on blocks and drivers is broken, the families found along a level order solve the equations of time zero, whichever order it is, and no other pair does
abbrev pub OneFamilies : Type 0
OneFamilies = (d : Design) → IsOrderly d → (clocks order : List ℕ) → is_level_order d order ≡ true → IsSolved d clocks (families d clocks order)
    × ((f g : Families) → IsSolved d clocks f → IsSolved d clocks g → (b : ℕ) → (f.early b ≡ g.early b) × (f.late b ≡ g.late b))

-- Where no rule on blocks and drivers is broken, and each clock is an input's bit or none of the design's, a combinational block sleeps exactly where it waits on such bits alone and is neither quiet nor wakes.
abbrev pub SleepingIs : Type 0
SleepingIs = (d : Design) → IsOrderly d → list_all (λ p. is_empty (missing_bits p)) d.processes ≡ true → (clocks : List ℕ) → ((c : ℕ) → contains clocks c ≡ true → (contains (input_bits d) c ≡ true) ⊎ (bit_count d ≤ c)) → (order : List ℕ) → is_level_order d order ≡ true
    → (p : ℕ) (s : Statement) (i : IsBlock d p s) → let x = Always i.place i.star i.events s in let f = families d clocks order in
    is_sleeping d x ≡ (list_all (is_still d) (waits_of x) && not (quiet_process f x) && not (wakes f x))

-- the level order is found exactly where there is no cycle: where it isn't there is a cycle, and where there is any level order there is none
abbrev pub OrderOrCycle : Type 0
OrderOrCycle = (d : Design) → IsDecided d

abbrev pub LevelOrderIs : Type 0
LevelOrderIs = (d : Design) (order : List ℕ) → is_level_order d order ≡ true → IsOrder d order

-- a design that elaboration gives is accepted exactly where nothing refuses it
abbrev pub AcceptedExactly : Type 0
AcceptedExactly = (d : Design) (names : List (List ℕ)) → IsLawfulDesign d → IsAcceptedDesign d names ↔ IsUnrefused d names

-- what is stirred along a level order are the bits that depend on those that it begins with
abbrev pub StirredBitsAre : Type 0
StirredBitsAre = (d : Design) (order : List ℕ) → is_level_order d order ≡ true → (bits : List ℕ) (b : ℕ) → (contains (stir d order bits) b ≡ true) ↔ DependsOn d bits b

-- so what breaks the rule Race is the same along each of them
abbrev pub RaceByAnyOrder : Type 0
RaceByAnyOrder = (d : Design) (order : List ℕ) → is_level_order d order ≡ true → (p : ℕ) (process : Process) → race_bits d order p process ≡ race_bits d (level_order d) p process

-- the network of an accepted design is lawful, in whatever order its initial processes run
abbrev pub AcceptedIsLawful : Type 0
AcceptedIsLawful = (d : Design) (names : List (List ℕ)) (a : IsAcceptedDesign d names) (order : List Initial) → IsOrderOf d.initials order → IsLawful (network_in d (clock_bits a.clocks) order)

-- so every completed run of its event queue, in whatever order of its steps, ends each slot with the one solution
abbrev pub EveryOrderOfDesign : Type 0
EveryOrderOfDesign = (d : Design) (names : List (List ℕ)) (a : IsAcceptedDesign d names) (order : List Initial) → IsOrderOf d.initials order → let m = network_in d (clock_bits a.clocks) order in let n = network_of d (clock_bits a.clocks) in (first v : State) (vs : List State) → IsFirst m first → IsKnownVector m v → AreKnownResets m vs → (choices : List Choice) → IsCompleted m (start m first v vs) choices → IsSolution n (beginning n) (slots_of (v ∷ vs)) (ends m (start m first v vs) choices)

-- before slot 0 a bit has what initial processes leave in it, and else is idle
abbrev pub BeginningIs : Type 0
BeginningIs = (d : Design) (names : List (List ℕ)) (a : IsAcceptedDesign d names) (b : ℕ) → beginning (network_of d (clock_bits a.clocks)) b ≡ start_value d b

-- the values have no x and no z in a data input that is a select input
abbrev pub HasKnownSelects : Design → (clocks : List ℕ) → State → Type 0
HasKnownSelects d clocks v = (b : ℕ) → contains (signals_bits (data_selects d clocks)) b ≡ true → IsKnown (v b)

-- and so have all vectors of these slots, and the values before them where the first is a rise
abbrev pub AreKnownSelects : Design → (clocks : List ℕ) → State → List Slot → Type 0
AreKnownSelects d clocks before [] = Unit {0}
AreKnownSelects d clocks before (Fall v ∷ slots) = HasKnownSelects d clocks v × AreKnownSelects d clocks v slots
AreKnownSelects d clocks before (Rise ∷ slots) = HasKnownSelects d clocks before × AreKnownSelects d clocks before slots

-- the equations of an accepted design have no second solution, where the vectors are known in its select inputs
abbrev pub OneSolutionOfDesign : Type 0
OneSolutionOfDesign = (d : Design) (names : List (List ℕ)) (a : IsAcceptedDesign d names) → let n = network_of d (clock_bits a.clocks) in (before : State) (slots : List Slot) (xs ys : List State) → AreKnownSelects d (clock_bits a.clocks) before slots → IsSolution n before slots xs → IsSolution n before slots ys → xs ≡ ys

-- in each of its level orders the level run is a completed run, and it ends with the solution
abbrev pub LevelRunOfDesign : Type 0
LevelRunOfDesign = (d : Design) (names : List (List ℕ)) (a : IsAcceptedDesign d names) (order : List ℕ) → is_level_order d order ≡ true → let n = network_of d (clock_bits a.clocks) in (first v : State) (vs : List State) → IsFirst n first → IsKnownVector n v → AreKnownResets n vs → let q = start n first v vs in IsCompleted n q (level_run n order q) × IsSolution n (beginning n) (slots_of (v ∷ vs)) (ends n q (level_run n order q))

-- where inputs and registers have their values, one pass over any of its level orders gives the values at the slot's end
abbrev pub OnePassOfDesign : Type 0
OnePassOfDesign = (d : Design) (names : List (List ℕ)) (a : IsAcceptedDesign d names) (order : List ℕ) → is_level_order d order ≡ true → let n = network_of d (clock_bits a.clocks) in (before : State) (slot : Slot) (s : State) → IsFed n before slot s → IsSlotEnd n before slot (settle n before order s)

-- its processes have weights, so between two beginnings of slots there are at most `bound` steps, in any order
abbrev pub BoundOfDesign : Type 0
BoundOfDesign = (d : Design) (names : List (List ℕ)) (a : IsAcceptedDesign d names) (order : List Initial) → IsOrderOf d.initials order → let n = network_in d (clock_bits a.clocks) order in (w : ℕ → ℕ) × (r : ℕ → ℕ) × IsWeighed n (feeds_of d (clock_bits a.clocks)) (size_of d) w r
    × ((first v : State) (vs : List State) → IsFirst n first → IsKnownVector n v → AreKnownResets n vs → (earlier steps : List Choice) → IsPartOfRun n (start n first v vs) (earlier ++ steps) → HasNoNext steps → length steps ≤ bound n w r)

-- every run of its event queue can be continued to a completed one
abbrev pub RunsEndOfDesign : Type 0
RunsEndOfDesign = (d : Design) (names : List (List ℕ)) (a : IsAcceptedDesign d names) (order : List Initial) → IsOrderOf d.initials order → let n = network_in d (clock_bits a.clocks) order in (first v : State) (vs : List State) → IsFirst n first → IsKnownVector n v → AreKnownResets n vs → (earlier : List Choice) → IsPartOfRun n (start n first v vs) earlier → (later : List Choice) × IsCompleted n (start n first v vs) (earlier ++ later)

-- in every completed run, at the end of each slot, a sleeping block has run exactly where a bit that it waits on wasn't x at the end of that slot or one before it
abbrev pub SleepersOfDesign : Type 0
SleepersOfDesign = (d : Design) (names : List (List ℕ)) (a : IsAcceptedDesign d names) (order : List Initial) → IsOrderOf d.initials order → let n = network_in d (clock_bits a.clocks) order in (first v : State) (vs : List State) → IsFirst n first → IsKnownVector n v → AreKnownResets n vs
    → (earlier later : List Choice) → IsCompleted n (start n first v vs) (earlier ++ later) → IsAfterSlot later
    → (p : ℕ) (x : Sleeper) → sleeper_at d p ≡ Some x → (has_run p earlier ≡ true) ↔ (list_any (λ s. not (all_x s x.on)) (ends n (start n first v vs) earlier) ≡ true)
