-- The order of the text, by the numbers of the processes of both kinds.
use Rattle.std.specs.Prelude.{◌≡◌, ◌≤◌, ℕ, true, List, map, drop, length, slice_get, Some}
use Rattle.vs_design.specs.Designs as D
use Rattle.vs_design.specs.Elaborated.{are_behind}
use Rattle.vs_flat.specs.declared.processes.AnyProcess.{AnyProcess}
use Rattle.vs_flat.specs.declared.processes.AnyProcess.TheVariants.{Process, Initial}

abbrev pub any_of : D.AnyProcess → AnyProcess
any_of (D.OfProcess p process) = Process p
any_of (D.OfInitial k initial) = Initial k

abbrev pub text_numbers : D.Design → List AnyProcess
text_numbers d = map any_of (D.in_text_order d)

-- the initial processes that stand behind p processes or more are those from this number on, in order
abbrev pub IsNext : D.Design → (p next : ℕ) → Type 0
IsNext d p next = (are_behind p (length d.processes) (drop next d.initials) ≡ true) × ((q : ℕ) → p ≤ q → D.standing q 0 d.initials ≡ D.standing q next (drop next d.initials))

-- what stands in the text with the number of a process is that process
abbrev pub ProcessesInText : Type 0
ProcessesInText = (d : D.Design) (n p : ℕ) → slice_get (text_numbers d) n ≡ Some (Process p)
    → (process : D.Process) × (slice_get (D.in_text_order d) n ≡ Some (D.OfProcess p process)) × (slice_get d.processes p ≡ Some process)

abbrev pub InitialsInText : Type 0
InitialsInText = (d : D.Design) (n k : ℕ) → slice_get (text_numbers d) n ≡ Some (Initial k)
    → (initial : D.Initial) × (slice_get (D.in_text_order d) n ≡ Some (D.OfInitial k initial)) × (slice_get d.initials k ≡ Some initial)
