-- The number that a report gives to a process: how many stand before it in the text, initial ones among them.
use Rattle.std.specs.Prelude.{◌≡◌, ℕ, suc, ◌+◌, List, [], ◌∷◌, length, slice_get, nat_le, nat_lt, Some, None, if◌then◌else◌}
use Rattle.vs_design.specs.Designs.{Design, Initial, process_place}
use Rattle.vs_design.specs.Elaborated.{IsLawfulDesign}
use Rattle.vs_flat.specs.TextOrder.{text_numbers}
use Rattle.vs_flat.specs.declared.processes.AnyProcess.{AnyProcess}
use Rattle.vs_flat.specs.declared.processes.AnyProcess.TheVariants as any

-- how many initial processes stand before process p: they stand in the order of the text, so those that don't are behind those that do
abbrev pub starts_before : List Initial → ℕ → ℕ
starts_before [] p = 0
starts_before (i ∷ is) p = if nat_le i.behind p then suc (starts_before is p) else 0

-- a number that no process has stays as it is
abbrev pub number_of : Design → AnyProcess → ℕ
number_of d (any.Process p) = if nat_lt p (length d.processes) then p + starts_before d.initials p else p
number_of d (any.Initial k) = elim (slice_get d.initials k) [ None ↦ k | Some i ↦ i.behind + k ]

abbrev pub process_number : Design → ℕ → ℕ
process_number d p = number_of d (any.Process p)

-- the token at which it begins
abbrev pub begin_of : Design → AnyProcess → ℕ
begin_of d (any.Process p) = elim (slice_get d.processes p) [ None ↦ 0 | Some x ↦ process_place x ]
begin_of d (any.Initial k) = elim (slice_get d.initials k) [ None ↦ 0 | Some i ↦ i.place ]

-- in the order of the text a process of either kind stands behind as many as its number says
abbrev pub NumbersArePlaces : Type 0
NumbersArePlaces = (d : Design) (n : ℕ) (x : AnyProcess) → IsLawfulDesign d → slice_get (text_numbers d) n ≡ Some x → number_of d x ≡ n
