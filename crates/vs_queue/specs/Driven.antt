-- What the environment drives: the vectors of the data inputs, and the updates that they and the clocks give in a slot.
use Rattle.std.specs.Prelude.{◌≡◌, ℕ, suc, not, ◌+◌, length, List, [], ◌∷◌, ◌++◌, filter, Option, Some, None}
use Rattle.vs_four.specs.declared.Bit4.{Bit4}
use Rattle.vs_net.specs.Network.{State, Update, Clock}
use Rattle.vs_net.specs.Queue.{Slot, Fall, Rise, drive}
use Rattle.vs_design.specs.Footprints.{contains}
use Rattle.vs_design.specs.Expressions.{Signal}
use Rattle.vs_design.specs.Values.{bits_of_signal, read}
use Rattle.vs_design.specs.Designs.{Design, top_inputs}
use Rattle.vs_design.specs.Networks.{writer_of, spare_clocks}
use Rattle.vs_events.specs.Beginning.{Drive}

-- a value for each data input, in their order, the least significant bit first
abbrev pub Vector : Type 0
Vector = List (List Bit4)

-- the inputs of the top but the clocks, in order of declaration
abbrev pub data_inputs : List ℕ → List Signal → List Signal
data_inputs clocks ss = filter (λ s. not (contains clocks s.first)) ss

-- in these values of all bits the inputs have those of the vector
abbrev pub AreGiven : List Signal → Vector → State → Type 0
AreGiven [] [] v = Unit {0}
AreGiven (s ∷ ss) (x ∷ xs) v = (read v (bits_of_signal s) ≡ x) × AreGiven ss xs v
AreGiven _ _ v = ⊥

-- a slot in which the clocks fall, with a vector, or rise
abbrev pub IsSlotOf : Design → List ℕ → Option Vector → Slot → Type 0
IsSlotOf d clocks (Some vector) (Fall v) = AreGiven (data_inputs clocks (top_inputs d)) vector v
IsSlotOf d clocks None Rise = Unit {0}
IsSlotOf d clocks _ _ = ⊥

-- values of all bits for each vector
abbrev pub AreVectors : Design → List ℕ → List Vector → List State → Type 0
AreVectors d clocks [] [] = Unit {0}
AreVectors d clocks (x ∷ xs) (v ∷ vs) = AreGiven (data_inputs clocks (top_inputs d)) x v × AreVectors d clocks xs vs
AreVectors d clocks _ _ = ⊥

-- the vectors have a value of its length for each data input
abbrev pub IsDrive : Design → List ℕ → List Vector → Type 0
IsDrive d clocks vectors = (states : List State) × AreVectors d clocks vectors states

-- the updates of one writer
abbrev pub each_drive : ℕ → List Update → List Drive
each_drive p [] = []
each_drive p (u ∷ us) = record { process = p; update = u } ∷ each_drive p us

-- what these inputs, the first of which has this number, are given in a slot
abbrev pub drives_from : List ℕ → Slot → ℕ → List Signal → List Drive
drives_from clocks slot p [] = []
drives_from clocks slot p (s ∷ ss) = each_drive p (drive (writer_of clocks s) slot) ++ drives_from clocks slot (suc p) ss

-- these clocks, the first of which has this number
abbrev pub clock_drives : Slot → ℕ → List ℕ → List Drive
clock_drives slot p [] = []
clock_drives slot p (c ∷ cs) = each_drive p (drive (Clock c) slot) ++ clock_drives slot (suc p) cs

-- and clocks that are none of the design's bits
abbrev pub spare_drives : Design → List ℕ → Slot → List Drive
spare_drives d clocks slot = clock_drives slot (length d.processes + length (top_inputs d)) (spare_clocks d clocks)

-- all that is given in a slot
abbrev pub slot_drives : Design → List ℕ → Slot → List Drive
slot_drives d clocks slot = drives_from clocks slot (length d.processes) (top_inputs d) ++ spare_drives d clocks slot
