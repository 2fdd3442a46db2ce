-- All completed runs end their slots alike, so their dumps are one.
use Rattle.std.proofs.Common.{◌≡◌, ◌∙◌, ℕ, Bool, List, ◌∷◌, map, ap, subst}
use Rattle.vs_four.specs.declared.Bit4.{Bit4}
use Rattle.vs_net.specs.Network.{State}
use Rattle.vs_net.specs.Queue.{Choice, IsCompleted, IsFirst, ends, slots_of, start}
use Rattle.vs_net.specs.Laws.{IsKnownVector, AreKnownResets}
use Rattle.vs_net.specs.Solution.{IsSolution, beginning}
use Rattle.vs_design.specs.Clocks.{clock_bits}
use Rattle.vs_design.specs.Designs.{Initial, Design}
use Rattle.vs_design.specs.Initials.{IsOrderOf}
use Rattle.vs_design.specs.Laws.{AreKnownSelects, EveryOrderOfDesign, OneSolutionOfDesign}
use Rattle.vs_design.specs.Networks.{network_in, network_of}
use Rattle.vs_clock.specs.Clocked.{Clocked}
use Rattle.vs_queue.specs.Driven.{AreVectors}
use Rattle.vs_queue.specs.Machines.{IsAcceptedBy}
use Rattle.vs_queue.specs.Ordered.{IsOrderedRun}
use Rattle.vs_rounds.specs.Drives.{Vector, vector_state}
use Rattle.vs_vcd.specs.Shared.{text_of}
use Rattle.vs_writes.specs.Held.{state_of}
use Rattle.vs_ordered.specs.Traced.{AreSized, AreValid, HasSteps, IsEveryDump}
use Rattle.vs_ordered.proofs.Valid.{all_asked, clocks_are}

-- a solution of the design's equations is what every completed run ends with
abbrev Ends : Design → State → List State → List State → List ℕ → Type 0
Ends d first later values clocks =
    let n = network_of d clocks in IsKnownVector n first → AreKnownResets n later → AreKnownSelects d clocks (beginning n) (slots_of (first ∷ later)) → IsSolution n (beginning n) (slots_of (first ∷ later)) values
    → (initials : List Initial) → IsOrderOf d.initials initials → let m = network_in d clocks initials in
    (idle : State) → IsFirst m idle → (choices : List Choice) → IsCompleted m (start m idle first later) choices → values ≡ ends m (start m idle first later) choices

same_ends : EveryOrderOfDesign → OneSolutionOfDesign → (d : Design) (c : Clocked) → IsAcceptedBy d c → (first : State) (later values : List State) → Ends d first later values c.bits
same_ends order unique d c h first later values =
    subst (Ends d first later values) (clocks_are d c h)
    (λ known resets selects solved initials in_order idle is_first choices completed.
    let n = network_of d (clock_bits h.accepted.clocks) in
    let m = network_in d (clock_bits h.accepted.clocks) initials in
    unique d h.names h.accepted (beginning n) (slots_of (first ∷ later)) values (ends m (start m idle first later) choices) selects solved (order d h.names h.accepted initials in_order idle first later is_first known resets choices completed))

-- what a run of the queue ensures
abbrev pub Solves : Design → List ℕ → List Vector → List (List Bit4) → Type 0
Solves d clocks vectors values =
    (first : State) (later : List State) → AreVectors d clocks vectors (first ∷ later) → IsKnownVector (network_of d clocks) first → AreKnownResets (network_of d clocks) later
    → let n = network_of d clocks in IsSolution n (beginning n) (slots_of (first ∷ later)) (map state_of values)

abbrev pub IsRun : Design → List ℕ → ℕ → List Vector → List (List Bit4) → ℕ → Type 0
IsRun d clocks order vectors values steps =
    (first : State) (later : List State) → AreVectors d clocks vectors (first ∷ later) → IsKnownVector (network_of d clocks) first → AreKnownResets (network_of d clocks) later → IsOrderedRun d clocks order first later values steps

-- and its dump is that of every completed run
pub every_dump : EveryOrderOfDesign → OneSolutionOfDesign → {d : Design} {c : Clocked} (h : IsAcceptedBy d c) (half : ℕ) (vectors : List Vector) (values : List (List Bit4)) (share : Bool) (text : List ℕ)
    → AreSized d c.bits vectors → Solves d c.bits vectors values → text ≡ text_of share d half (map state_of values)
    → (first : Vector) (later : List Vector) → AreValid d c.bits vectors first later → IsEveryDump share d c.bits half first later text
every_dump order unique {d} {c} h half vectors values share text sized solves is first later valid = λ initials in_order idle is_first choices completed.
    let asks = all_asked d c h vectors first later sized valid in
    let f = vector_state d c.bits first in
    let l : List State = map (vector_state d c.bits) later in
    is ∙ ap (text_of share d half) (same_ends order unique d c h f l (map state_of values) asks.known asks.resets (asks.selects (beginning (network_of d c.bits))) (solves f l asks.given asks.known asks.resets) initials in_order idle is_first choices completed)

pub has_steps : {d : Design} {c : Clocked} (h : IsAcceptedBy d c) (order : ℕ) (vectors : List Vector) (values : List (List Bit4)) (steps : ℕ) → AreSized d c.bits vectors → IsRun d c.bits order vectors values steps
    → (first : Vector) (later : List Vector) → AreValid d c.bits vectors first later → HasSteps d c.bits order first later steps
has_steps {d} {c} h order vectors values steps sized run first later valid =
    let asks = all_asked d c h vectors first later sized valid in
    let r = run (vector_state d c.bits first) (map (vector_state d c.bits) later) asks.given asks.known asks.resets in
    record { choices = r.choices; chosen = r.chosen; steps_are = r.steps_are }
